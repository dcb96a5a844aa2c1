-- Laws of calls that go to their end: parts in a row.
use Rattle.std.proofs.Common.{List, [], ◌++◌}
use Rattle.chunk_tags.specs.declared.tunables.Tunables.{Tunables}
use Rattle.arena_core.specs.declared.journal.Who.{Who}
use Rattle.arena_holds.specs.Places.{Setting, Standing}
use Rattle.arena_holds.specs.Calls.{Call, Done, then_call}
use Rattle.arena_holds.specs.Going.{Told, Goes, here, idled, held, held_free, opened, refused, booked, mapped, pushed, freed, unmapped, remapped, posted, taken, Does}

-- one part, and another from where it ends
pub goes_then : {P H D K A : Type 0} {s : Setting P H D K} {t : Tunables} {who : Who} {c q u : Call A} {o p z : Standing P K} {told more : List Told} →
    Goes s t who c o told q p → Goes s t who q p more u z → Goes s t who c o (told ++ more) u z
goes_then here b = b
goes_then (idled i a) b = idled i (goes_then a b)
goes_then (held h a) b = held h (goes_then a b)
goes_then (held_free f h a) b = held_free f h (goes_then a b)
goes_then (opened h a) b = opened h (goes_then a b)
goes_then (refused h a) b = refused h (goes_then a b)
goes_then (booked h a) b = booked h (goes_then a b)
goes_then (mapped h a) b = mapped h (goes_then a b)
goes_then (pushed h a) b = pushed h (goes_then a b)
goes_then (freed h a) b = freed h (goes_then a b)
goes_then (unmapped h a) b = unmapped h (goes_then a b)
goes_then (remapped h a) b = remapped h (goes_then a b)
goes_then (posted h a) b = posted h (goes_then a b)
goes_then (taken h a) b = taken h (goes_then a b)

-- a call goes the same way with another behind it
pub goes_behind : {P H D K A B : Type 0} {s : Setting P H D K} {t : Tunables} {who : Who} {c q : Call A} {o z : Standing P K} {told : List Told} (f : A → Call B) →
    Goes s t who c o told q z → Goes s t who (then_call c f) o told (then_call q f) z
goes_behind f here = here
goes_behind f (idled i a) = idled i (goes_behind f a)
goes_behind f (held h a) = held h (goes_behind f a)
goes_behind f (held_free g h a) = held_free g h (goes_behind f a)
goes_behind f (opened h a) = opened h (goes_behind f a)
goes_behind f (refused h a) = refused h (goes_behind f a)
goes_behind f (booked h a) = booked h (goes_behind f a)
goes_behind f (mapped h a) = mapped h (goes_behind f a)
goes_behind f (pushed h a) = pushed h (goes_behind f a)
goes_behind f (freed h a) = freed h (goes_behind f a)
goes_behind f (unmapped h a) = unmapped h (goes_behind f a)
goes_behind f (remapped h a) = remapped h (goes_behind f a)
goes_behind f (posted h a) = posted h (goes_behind f a)
goes_behind f (taken h a) = taken h (goes_behind f a)

pub does_here : {P H D K A : Type 0} {s : Setting P H D K} {t : Tunables} {who : Who} (x : A) (o : Standing P K) → Does s t who (Done x) o x o
does_here x o = record { told = []; goes = here }

-- a call, and what comes behind it
pub does_then : {P H D K A B : Type 0} {s : Setting P H D K} {t : Tunables} {who : Who} {c : Call A} {o p z : Standing P K} {x : A} {y : B} (f : A → Call B) →
    Does s t who c o x p → Does s t who (f x) p y z → Does s t who (then_call c f) o y z
does_then f a b = record { told = a.told ++ b.told; goes = goes_then (goes_behind f a.goes) b.goes }

-- a call, and a result of what it came to
pub does_last : {P H D K A B : Type 0} {s : Setting P H D K} {t : Tunables} {who : Who} {c : Call A} {o p : Standing P K} {x : A} (f : A → B) →
    Does s t who c o x p → Does s t who (then_call c (λ y. Done (f y))) o (f x) p
does_last f a = record { told = a.told; goes = goes_behind (λ y. Done (f y)) a.goes }
