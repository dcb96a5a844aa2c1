-- Laws of a block that goes to a tray, or comes from one.
use Rattle.std.proofs.Common.{◌≡◌, ℕ, ◌+◌, [], ◌∷◌, true, Some, None, refl, ap, ◌∙◌, arith}
use Rattle.std.specs.Prelude.{Ok, Err}
use Rattle.chunk_tags.specs.declared.block.Block.{Block}
use Rattle.chunk_tags.specs.declared.tunables.Tunables.{Tunables}
use Rattle.address_space.specs.declared.space.Space.{Space}
use Rattle.arena_core.specs.declared.journal.Who.{Who}
use Rattle.arena_holds.specs.Going as going
use Rattle.arena_holds.specs.Going.{Does, here}
use Rattle.arena_holds.specs.Places.{PlaceWays, Setting, standing, Hands, both_of}
use Rattle.arena_holds.specs.Returning.{IsUnseen, IsPosted, IsTaken}
use Rattle.block_names.specs.Names.{NameTable, has_place, block_at, with_block, without_block}
use Rattle.own_blocks.specs.Own.{in_own}
use Rattle.malloc_calls.specs.Trays.{post_call, take_call}
use Rattle.own_blocks.specs.declared.own.Own.{Own}
use Rattle.own_blocks.specs.declared.reply.Reply.TheVariants.{Posted, Taken, Missed}
use Rattle.arena_holds.proofs.Carrying.{SameLaw}
use Rattle.own_blocks.proofs.Calling.{own_unnamed}
use Rattle.block_names.proofs.Tables.{put_back}
use Rattle.own_blocks.proofs.Weights.{in_names-with}

-- beside others
unseen_beside : {P H D : Type 0} {ways : PlaceWays P H D} {p q : P} {given got : Hands} → SameLaw ways → (others given' got' : Hands) →
    ((weigh : Block → ℕ) → given' weigh ≡ given weigh + others weigh) → ((weigh : Block → ℕ) → got' weigh ≡ got weigh + others weigh) →
    IsUnseen ways p given got q → IsUnseen ways p given' got' q
unseen_beside {p = p} {q = q} {given = given} {got = got} same others given' got' e f u = record {
  serves = λ exact more s.
      same exact q (both_of got (both_of others more)) (both_of got' more) (λ w. omega (arith, f w))
      (u.serves exact (both_of others more)
      (same exact p (both_of given' more) (both_of given (both_of others more)) (λ w. omega (arith, e w)) s));
  notes = u.notes;
  tunables = u.tunables;
  whole = u.whole;
  writes = u.writes;
}

-- what a name has when its block came back
pub kept_names : (name : ℕ) (b back : Block) (names taken now : NameTable) → block_at names name ≡ Some b → taken ≡ without_block name names →
    back ≡ b → now ≡ with_block name back taken → now ≡ names
kept_names name b back names taken now at gone same put =
    put ∙ (ap (λ (x : Block). with_block name x taken) same ∙ (ap (with_block name b) gone ∙ put_back names name b at))

-- ---- a block is posted

pub post_does : {P H D K : Type 0} {s : Setting P H D K} {p q : P} (t : Tunables) (who : Who) (space : Space K) (name tray : ℕ) (b : Block) (own : Own)
    (names : NameTable) → block_at own.names name ≡ Some b → names ≡ without_block name own.names → IsPosted s.ways tray p b None q →
    Does s t who (post_call name tray own) (standing p space) (Posted, record { cache = own.cache; names = names }) (standing q space)
post_does t who space name tray b own names at gone h = rw (at, gone) (record {
  told = going.Posted tray b None ∷ [];
  goes = going.posted (record { posted = h.posted; space = refl }) here;
})

pub post_unseen : {P H D : Type 0} {ways : PlaceWays P H D} {p q : P} (name tray : ℕ) (b : Block) (own : Own) (names : NameTable) → SameLaw ways →
    block_at own.names name ≡ Some b → names ≡ without_block name own.names → IsPosted ways tray p b None q →
    IsUnseen ways p (in_own own) (in_own (record { cache = own.cache; names = names })) q
post_unseen name tray b own names same at gone h =
    let left = in_own (record { cache = own.cache; names = names }) in
    unseen_beside same left (in_own own) left (λ w. own_unnamed own name b own.cache names at refl gone w) (λ w. omega arith) h.unseen

-- the tray wasn't empty: the name has its block again
pub full_does : {P H D K : Type 0} {s : Setting P H D K} {p q : P} (t : Tunables) (who : Who) (space : Space K) (name tray seen : ℕ) (b : Block) (own : Own)
    (names : NameTable) → block_at own.names name ≡ Some b → names ≡ own.names → IsPosted s.ways tray p b (Some seen) q →
    Does s t who (post_call name tray own) (standing p space) (Missed seen, record { cache = own.cache; names = names }) (standing q space)
full_does t who space name tray seen b own names at same h = rw (at, same) (record {
  told = going.Posted tray b (Some seen) ∷ [];
  goes = going.posted (record { posted = h.posted; space = refl }) here;
})

pub full_unseen : {P H D : Type 0} {ways : PlaceWays P H D} {p q : P} (name tray seen : ℕ) (b : Block) (own : Own) (taken names : NameTable) → SameLaw ways →
    block_at own.names name ≡ Some b → taken ≡ without_block name own.names → names ≡ own.names → IsPosted ways tray p b (Some seen) q →
    IsUnseen ways p (in_own own) (in_own (record { cache = own.cache; names = names })) q
full_unseen name tray seen b own taken names same at gone put h =
    let left = in_own (record { cache = own.cache; names = taken }) in
    let weighs : (w : Block → ℕ) → in_own own w ≡ w b + left w = λ w. own_unnamed own name b own.cache taken at refl gone w in
    rw put (unseen_beside same left (in_own own) (in_own own) weighs weighs h.unseen)

-- ---- a block is taken

pub take_does : {P H D K : Type 0} {s : Setting P H D K} {p q : P} (t : Tunables) (who : Who) (space : Space K) (name tray : ℕ) (b : Block) (own : Own)
    (names : NameTable) → names ≡ with_block name b own.names → IsTaken s.ways tray p (Ok b) q →
    Does s t who (take_call name tray own) (standing p space) (Taken b.addr b.size, record { cache = own.cache; names = names }) (standing q space)
take_does t who space name tray b own names put h = rw put (record {
  told = going.Taken tray (Ok b) ∷ [];
  goes = going.taken (record { took = h.took; space = refl }) here;
})

pub take_unseen : {P H D : Type 0} {ways : PlaceWays P H D} {p q : P} (name tray : ℕ) (b : Block) (own : Own) (names : NameTable) → SameLaw ways →
    has_place own.names name ≡ true → block_at own.names name ≡ None → names ≡ with_block name b own.names → IsTaken ways tray p (Ok b) q →
    IsUnseen ways p (in_own own) (in_own (record { cache = own.cache; names = names })) q
take_unseen name tray b own names same room empty put h =
    unseen_beside same (in_own own) (in_own own) (in_own (record { cache = own.cache; names = names })) (λ w. omega arith)
    (λ w. rw put (omega (arith, in_names-with name b own.names w room empty))) h.unseen

pub empty_does : {P H D K : Type 0} {s : Setting P H D K} {p q : P} (t : Tunables) (who : Who) (space : Space K) (name tray seen : ℕ) (own : Own) →
    IsTaken s.ways tray p (Err seen) q → Does s t who (take_call name tray own) (standing p space) (Missed seen, own) (standing q space)
empty_does t who space name tray seen own h = record {
  told = going.Taken tray (Err seen) ∷ [];
  goes = going.taken (record { took = h.took; space = refl }) here;
}

pub empty_unseen : {P H D : Type 0} {ways : PlaceWays P H D} {p q : P} (tray seen : ℕ) (own : Own) → SameLaw ways → IsTaken ways tray p (Err seen) q →
    IsUnseen ways p (in_own own) (in_own own) q
empty_unseen tray seen own same h = unseen_beside same (in_own own) (in_own own) (in_own own) (λ w. omega arith) (λ w. omega arith) h.unseen
