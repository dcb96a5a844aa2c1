-- What a post and a take leave of the thread's names and of the trays.
use Rattle.std.proofs.Common.{◌≡◌, ℕ, ◌+◌, ◌<◌, true, List, length, set, Option, Some, None, inl, inr, refl, sym, ap, ◌∙◌, subst, arith}
use Rattle.std.proofs.lemmas.List.{get_or-set_same, get_or-set_other, length-set}
use Rattle.std.proofs.lemmas.List.Sums.{sum_by-set}
use Rattle.chunk_tags.specs.declared.block.Block.{Block}
use Rattle.own_blocks.specs.declared.own.Own.{Own}
use Rattle.own_blocks.specs.declared.reply.Reply.{Reply}
use Rattle.own_blocks.specs.declared.reply.Reply.TheVariants.{Posted, Taken}
use Rattle.block_names.specs.Names.{NameTable, has_place, block_at, with_at, with_block, without_block}
use Rattle.block_names.proofs.Tables.{at_same, at_other, place_of, set_weighs}
use Rattle.own_blocks.specs.Own.{in_names, in_own}
use Rattle.malloc_calls.specs.Trays.{post_call, post_of_name, post_end, take_call, take_end}
use Rattle.arena_holds.specs.Places.{weight_of}
use Rattle.serial_places.specs.Trays.{tray_at, in_tray, in_trays, posted_tray, taken_tray, seen_by_post, found_by_take}
use Rattle.serial_places.specs.declared.tray.Tray.{Tray}
use Rattle.serial_places.specs.declared.tray.Tray.TheVariants as trays
use Rattle.trace_replay.specs.Naming.{PostsName, TakesName}
use Rattle.trace_replay.proofs.CallEnds.{AllEnds}
use Rattle.trace_replay.proofs.CallResults.{emptied}
use Rattle.trace_replay.proofs.Sums.{same_or_other}

-- what a call at a tray leaves of its thread and the trays: as many blocks, wherever they are
pub record SameBlocks (own now : Own) (ts left : List Tray) : Type 0 where
  pub all : (weigh : Block → ℕ) → in_trays left weigh + in_own now weigh ≡ in_trays ts weigh + in_own own weigh
  pub count : length left ≡ length ts

pub record PostEnds (name tray : ℕ) (own : Own) (ts : List Tray) (r : Reply × Own) (left : List Tray) : Type 0 where
  pub names : PostsName name tray r.0 own.names r.1.names ts left
  pub blocks : SameBlocks own r.1 ts left

pub record TakeEnds (name tray : ℕ) (own : Own) (ts : List Tray) (r : Reply × Own) (left : List Tray) : Type 0 where
  pub names : TakesName name tray r.0 own.names r.1.names ts left
  pub blocks : SameBlocks own r.1 ts left

-- ---- a tray, and a name, of which one changes

tray_here : (ts : List Tray) (n : ℕ) (x : Tray) → n < length ts → tray_at (set ts n x) n ≡ x
tray_here ts n x lt = get_or-set_same ts n x trays.Empty lt

tray_other : (ts : List Tray) (n m : ℕ) (x : Tray) → (m ≡ n → ⊥) → tray_at (set ts n x) m ≡ tray_at ts m
tray_other ts n m x other = get_or-set_other ts n m x trays.Empty other

trays_weigh : (ts : List Tray) (n : ℕ) (x : Tray) (weigh : Block → ℕ) → n < length ts →
    in_trays (set ts n x) weigh + in_tray (tray_at ts n) weigh ≡ in_trays ts weigh + in_tray x weigh
trays_weigh ts n x weigh lt = sum_by-set (λ t. in_tray t weigh) ts n x trays.Empty lt

names_weigh : (names : NameTable) (n : ℕ) (o : Option Block) (weigh : Block → ℕ) → has_place names n ≡ true →
    in_names (with_at n o names) weigh + weight_of (block_at names n) weigh ≡ in_names names weigh + weight_of o weigh
names_weigh names n o weigh room = set_weighs n o names (λ p. weight_of p weigh) room

-- ---- a post to an empty tray

posted_ends : (name tray : ℕ) (own : Own) (ts : List Tray) (b : Block) → tray < length ts → tray_at ts tray ≡ trays.Empty → block_at own.names name ≡ Some b →
    PostEnds name tray own ts (Posted, record own { names = without_block name own.names }) (set ts tray (trays.Full b))
posted_ends name tray own ts b lt empty at = record {
  names = record {
    empties = emptied name own.names;
    others = λ n other. tray_other ts tray n (trays.Full b) other;
    posted = λ c is.
        let here : trays.Full b ≡ trays.Full c = sym (tray_here ts tray (trays.Full b) lt) ∙ is in
        let same : b ≡ c = cc in
        (refl, at ∙ ap Some same);
  };
  blocks = record {
    all = λ weigh. omega (
      arith,
      trays_weigh ts tray (trays.Full b) weigh lt,
      ap (λ (t : Tray). in_tray t weigh) empty,
      names_weigh own.names name None weigh (place_of own.names name b at),
      ap (λ (o : Option Block). weight_of o weigh) at,
    );
    count = length-set ts tray (trays.Full b);
  };
}

-- a tray that is empty holds nothing
nothing_in : {X : Type 0} (t : Tray) (c : Block) → t ≡ trays.Empty → t ≡ trays.Full c → X
nothing_in t c e f = let no : trays.Empty ≡ trays.Full c = sym e ∙ f in absurd cc

pub post_ends : (name tray : ℕ) (own : Own) (ts : List Tray) → tray < length ts → tray_at ts tray ≡ trays.Empty → AllEnds (PostEnds name tray own ts) (post_call name tray own) ts
post_ends name tray own ts lt empty =
    let cases : (o : Option Block) → block_at own.names name ≡ o → AllEnds (PostEnds name tray own ts) (post_of_name name tray o own) ts = elim [
      | None ↦ λ none. record {
        names = record { empties = record { others = λ n other. refl; gone = none }; others = λ n other. refl; posted = λ c is. nothing_in (tray_at ts tray) c empty is };
        blocks = record { all = λ weigh. refl; count = refl };
      }
      | Some b ↦ λ at.
          let P : Tray → Type 0 = λ t. PostEnds name tray own ts (post_end name own (seen_by_post t)) (set ts tray (posted_tray b t)) in
          subst P (sym empty) (posted_ends name tray own ts b lt empty at)
    ] in
    cases (block_at own.names name) refl

-- ---- a take

-- the tray has no block then, and no other changed
record Emptied (tray : ℕ) (ts left : List Tray) : Type 0 where
  empty : (n : ℕ) → tray_at ts n ≡ trays.Empty → tray_at left n ≡ trays.Empty
  stays : (n : ℕ) (b : Block) → tray_at left n ≡ trays.Full b → tray_at ts n ≡ trays.Full b

emptied_tray : (tray : ℕ) (ts : List Tray) (t : Tray) → tray < length ts → tray_at ts tray ≡ t → Emptied tray ts (set ts tray (taken_tray t))
emptied_tray tray ts trays.Empty lt at = record {
  empty = λ n is. elim (same_or_other n tray) [
    | inl same ↦ ap (tray_at (set ts tray trays.Empty)) same ∙ tray_here ts tray trays.Empty lt
    | inr other ↦ tray_other ts tray n trays.Empty other ∙ is
  ];
  stays = λ n b is. elim (same_or_other n tray) [
    | inl same ↦ nothing_in (tray_at (set ts tray trays.Empty) n) b (ap (tray_at (set ts tray trays.Empty)) same ∙ tray_here ts tray trays.Empty lt) is
    | inr other ↦ sym (tray_other ts tray n trays.Empty other) ∙ is
  ];
}
emptied_tray tray ts (trays.Full c) lt at = record {
  empty = λ n is. elim (same_or_other n tray) [
    | inl same ↦ let no : trays.Empty ≡ trays.Full c = sym is ∙ (ap (tray_at ts) same ∙ at) in absurd cc
    | inr other ↦ tray_other ts tray n trays.Taken other ∙ is
  ];
  stays = λ n b is. elim (same_or_other n tray) [
    | inl same ↦ let no : trays.Taken ≡ trays.Full b = sym (ap (tray_at (set ts tray trays.Taken)) same ∙ tray_here ts tray trays.Taken lt) ∙ is in absurd cc
    | inr other ↦ sym (tray_other ts tray n trays.Taken other) ∙ is
  ];
}
emptied_tray tray ts trays.Taken lt at = record {
  empty = λ n is. elim (same_or_other n tray) [
    | inl same ↦ let no : trays.Empty ≡ trays.Taken = sym is ∙ (ap (tray_at ts) same ∙ at) in absurd cc
    | inr other ↦ tray_other ts tray n trays.Taken other ∙ is
  ];
  stays = λ n b is. elim (same_or_other n tray) [
    | inl same ↦ let no : trays.Taken ≡ trays.Full b = sym (ap (tray_at (set ts tray trays.Taken)) same ∙ tray_here ts tray trays.Taken lt) ∙ is in absurd cc
    | inr other ↦ sym (tray_other ts tray n trays.Taken other) ∙ is
  ];
}

-- nothing was taken, and no block was there
missed_ends : (name tray : ℕ) (own : Own) (ts : List Tray) (t : Tray) (reply : Reply) → tray < length ts → tray_at ts tray ≡ t → block_at own.names name ≡ None →
    ((weigh : Block → ℕ) → in_tray t weigh ≡ 0) → ((weigh : Block → ℕ) → in_tray (taken_tray t) weigh ≡ 0) → TakeEnds name tray own ts (reply, own) (set ts tray (taken_tray t))
missed_ends name tray own ts t reply lt at none before after =
    let e : Emptied tray ts (set ts tray (taken_tray t)) = emptied_tray tray ts t lt at in
    record {
      names = record {
        others = λ n other. refl;
        empty = e.empty;
        stays = e.stays;
        taken = λ b is. let no : None ≡ Some b = sym none ∙ is in absurd cc;
      };
      blocks = record {
        all = λ weigh. omega (arith, trays_weigh ts tray (taken_tray t) weigh lt, ap (λ (x : Tray). in_tray x weigh) at, before weigh, after weigh);
        count = length-set ts tray (taken_tray t);
      };
    }

taken_ends : (name tray : ℕ) (own : Own) (ts : List Tray) (c : Block) → has_place own.names name ≡ true → tray < length ts → tray_at ts tray ≡ trays.Full c → block_at own.names name ≡ None →
    TakeEnds name tray own ts (Taken c.addr c.size, record own { names = with_block name c own.names }) (set ts tray trays.Taken)
taken_ends name tray own ts c room lt at none =
    let e : Emptied tray ts (set ts tray trays.Taken) = emptied_tray tray ts (trays.Full c) lt at in
    record {
      names = record {
        others = λ n other. at_other name n (Some c) own.names other;
        empty = e.empty;
        stays = e.stays;
        taken = λ b is.
            let here : Some c ≡ Some b = sym (at_same name (Some c) own.names room) ∙ is in
            let same : c ≡ b = cc in
            (at ∙ ap trays.Full same, (c.addr, c.size, refl));
      };
      blocks = record {
        all = λ weigh. omega (
          arith,
          trays_weigh ts tray trays.Taken weigh lt,
          ap (λ (t : Tray). in_tray t weigh) at,
          names_weigh own.names name (Some c) weigh room,
          ap (λ (o : Option Block). weight_of o weigh) none,
        );
        count = length-set ts tray trays.Taken;
      };
    }

pub take_ends : (name tray : ℕ) (own : Own) (ts : List Tray) → has_place own.names name ≡ true → tray < length ts → block_at own.names name ≡ None → AllEnds (TakeEnds name tray own ts) (take_call name tray own) ts
take_ends name tray own ts room lt none =
    let P : Tray → Type 0 = λ t. TakeEnds name tray own ts (take_end name own (found_by_take t)) (set ts tray (taken_tray t)) in
    let cases : (t : Tray) → tray_at ts tray ≡ t → P t = elim [
      | trays.Empty ↦ λ at. missed_ends name tray own ts trays.Empty _ lt at none (λ weigh. refl) (λ weigh. refl)
      | trays.Full c ↦ λ at. taken_ends name tray own ts c room lt at none
      | trays.Taken ↦ λ at. missed_ends name tray own ts trays.Taken _ lt at none (λ weigh. refl) (λ weigh. refl)
    ] in
    cases (tray_at ts tray) refl
