-- Laws of a block that is got and has a name then, and of the sizes and alignments that are asked for.
use Rattle.block_names.proofs.Tables.{at_same}
use Rattle.std.proofs.Common.{◌≡◌, ℕ, ◌+◌, ◌-◌, ◌^◌, ◌<◌, ◌≤◌, Bool, true, false, cond, Option, Some, None, refl, sym, ◌∙◌, subst, arith, ◌%◌, ◌/◌, ◌*◌, ◌&&◌, ap}
use Rattle.std.specs.Prelude.{IfSome, nat_le, nat_lt}
use Rattle.chunk_tags.specs.Sizes.{padded_request, chunk_size_of, IsRequestSize}
use Rattle.chunk_tags.specs.declared.block.Block.{Block}
use Rattle.chunk_tags.specs.declared.tunables.Tunables.{Tunables}
use Rattle.thread_cache.specs.Caches.{CacheValue}
use Rattle.arena_core.specs.Arenas.{need_of}
use Rattle.arena_core.specs.declared.journal.Who.{Who}
use Rattle.std.proofs.lemmas.Bool.{eqb-true, leb-false, ltb-false}
use Rattle.std.specs.Int.{is_power_of_two}
use Rattle.arena_rules.specs.Align.{IsAlignment}
use Rattle.malloc_calls.specs.Mallocs.{is_memalign}
use Rattle.block_names.specs.Names.{block_at, NameTable, has_place}
use Rattle.arena_holds.specs.Calls.{Call, Done}
use Rattle.own_blocks.specs.Calls.{Supplied, named, reply_of, names_with, answer_with, FitsName}
use Rattle.own_blocks.specs.declared.reply.Reply.{Reply}
use Rattle.own_blocks.specs.declared.own.Own.{Own}
use Rattle.own_blocks.specs.declared.supplying.Supply.{Supply}
use Rattle.arena_holds.specs.Going.{Does}
use Rattle.arena_holds.specs.Places.{Setting, Standing, Carries, weight_of}
use Rattle.own_blocks.specs.Own.{in_names, in_own}
use Rattle.own_blocks.specs.LeftCalls.{IsLeft}
use Rattle.own_blocks.proofs.LeftCalls.{left_behind}
use Rattle.own_blocks.specs.Supplying.{Supplies, block_supplied}
use Rattle.arena_holds.proofs.Going.{does_last}
use Rattle.arena_holds.proofs.Carrying.{SameLaw, carries_as, carries_beside}
use Rattle.own_blocks.proofs.Weights.{in_names-with}

-- ---- a name gets it

named_weight : (name : ℕ) (got : Option Supply) (names : NameTable) (weigh : Block → ℕ) → has_place names name ≡ true → block_at names name ≡ None →
    in_names (names_with name got names) weigh ≡ weight_of (block_supplied got) weigh + in_names names weigh
named_weight name None names weigh below empty = omega arith
named_weight name (Some g) names weigh below empty = in_names-with name g.block names weigh below empty

pub named_does : {P H D K : Type 0} {s : Setting P H D K} {t : Tunables} {who : Who} {nb : ℕ} {c : Call Supplied} {left : CacheValue} {o z : Standing P K}
    (name : ℕ) (own : Own) (got : Option Supply) (reply : Reply) (names : NameTable) →
    Supplies s t who c nb own.cache o got left z → reply ≡ reply_of got → names ≡ names_with name got own.names →
    Does s t who (named name own c) o (reply, record { cache = left; names = names }) z
named_does name own got reply names h e n = rw (e, n) (does_last (answer_with name own) h.does)

-- it is left where its block is got
pub named_left : {P H D K : Type 0} {s : Setting P H D K} {t : Tunables} {who : Who} {c : Call Supplied} {o z : Standing P K} (name : ℕ) (own : Own) → IsLeft s t who c o z →
    IsLeft s t who (named name own c) o z
named_left name own l = left_behind (λ x. Done (answer_with name own x)) l

pub named_carries : {P H D K : Type 0} {s : Setting P H D K} {t : Tunables} {who : Who} {nb : ℕ} {c : Call Supplied} {left : CacheValue} {o z : Standing P K}
    (name : ℕ) (own : Own) (got : Option Supply) (names : NameTable) → SameLaw s.ways → has_place own.names name ≡ true → block_at own.names name ≡ None →
    Supplies s t who c nb own.cache o got left z → names ≡ names_with name got own.names →
    Carries s.ways true (in_own own) o (in_own (record { cache = left; names = names })) z
named_carries {left = left} name own got names same below empty h e =
    carries_as same (in_own own) (in_own (record { cache = left; names = names })) (λ w. omega arith)
    (λ w. rw e (omega (arith, named_weight name got own.names w below empty)))
    (carries_beside same (in_names own.names) h.carries)

-- what is true of a block that is got is true of the one that the name then has
pub named_is : (P : Block → Type 0) (name : ℕ) (got : Option Supply) (names now : NameTable) → has_place names name ≡ true → block_at names name ≡ None →
    now ≡ names_with name got names → IfSome got (λ g. P g.block) → (b : Block) → block_at now name ≡ Some b → P b
named_is P name None names now room empty put h b is =
    let no : None ≡ Some b = sym empty ∙ (ap (λ (x : NameTable). block_at x name) (sym put) ∙ is) in
    absurd cc
named_is P name (Some g) names now room empty put h b is =
    let here : Some g.block ≡ Some b = sym (at_same name (Some g.block) names room) ∙ (ap (λ (x : NameTable). block_at x name) (sym put) ∙ is) in
    let same : g.block ≡ b = cc in
    subst P same h

-- ---- what a name has is large enough

pub padded_is : (size nb : ℕ) → padded_request size ≡ Some nb → nb ≡ chunk_size_of size
padded_is size nb e =
    let cases : (v : Bool) → cond v None (Some (chunk_size_of size)) ≡ Some nb → nb ≡ chunk_size_of size = elim [ true ↦ λ h. absurd cc | false ↦ λ h. cc ] in
    cases _ e

pub named_fits : (r nb name : ℕ) (got : Option Supply) (names now : NameTable) → padded_request r ≡ Some nb → has_place names name ≡ true → block_at names name ≡ None →
    now ≡ names_with name got names → IfSome got (λ g. need_of g.block.arena nb ≤ g.block.size) → FitsName (chunk_size_of r) name now
named_fits r nb name got names now size room empty put h =
    subst (λ n. FitsName n name now) (padded_is r nb size) (named_is (λ b. need_of b.arena nb ≤ b.size) name got names now room empty put h)

-- such a request has at most so many bytes
pub padded_small : (size nb : ℕ) → padded_request size ≡ Some nb → size ≤ 2 ^ 63 - 1
padded_small size nb e =
    let cases : (v : Bool) → nat_lt (2 ^ 63 - 1) size ≡ v → cond v None (Some (chunk_size_of size)) ≡ Some nb → size ≤ 2 ^ 63 - 1 = elim [
      | true ↦ λ is h. absurd cc
      | false ↦ λ is h. ltb-false (2 ^ 63 - 1) size is
    ] in
    cases _ refl e

-- and its chunk is one of a request
pub padded_chunk : (size nb : ℕ) → padded_request size ≡ Some nb → IsRequestSize nb
padded_chunk size nb e =
    let small : size ≤ 2 ^ 63 - 1 = padded_small size nb e in
    let cases : (v : Bool) → nat_lt (size + 23) 32 ≡ v → IsRequestSize (cond v 32 ((size + 23) / 16 * 16)) = elim [
      | true ↦ λ is. record { chunk = (omega arith, refl); largest = omega arith }
      | false ↦ λ is. record { chunk = (omega (arith, ltb-false (size + 23) 32 is), omega arith); largest = omega (arith, small) }
    ] in
    subst IsRequestSize (sym (padded_is size nb e)) (cases _ refl)

-- ---- alignments

first_true : (x y : Bool) → (x && y) ≡ true → x ≡ true
first_true true y h = refl
first_true false y h = absurd cc

second_true : (x y : Bool) → (x && y) ≡ true → y ≡ true
second_true true y h = h
second_true false y h = absurd cc

-- a power of two that is a multiple of 8 and above 16 is at least 32
pub is_alignment : (align : ℕ) → is_memalign align ≡ true → nat_le align 16 ≡ false → IsAlignment align
unfolding lib.Count.ones
is_alignment align takes high =
    let power : is_power_of_two align ≡ true = first_true _ _ takes in
    let eights : align % 8 ≡ 0 = eqb-true (align % 8) 0 (second_true _ _ takes) in
    let below : 16 < align = leb-false align 16 high in
    let is24 : align ≡ 24 → ⊥ = λ e. let yes : is_power_of_two 24 ≡ true = subst (λ n. is_power_of_two n ≡ true) e power in
    let no : is_power_of_two 24 ≡ false = refl in
    let both : true ≡ false = sym yes ∙ no in
    absurd cc in
    let least : 32 ≤ align = omega (arith, eights, below, is24) in
    record { least = least; power = power }
