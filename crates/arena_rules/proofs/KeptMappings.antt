-- A resize maps within its hold at most once, and a search for an aligned chunk at its end; what is cut off and released
-- never maps (public for the crates above).
use Rattle.std.proofs.Common.{◌≡◌, ℕ, ◌+◌, ◌-◌, Bool, true, false, refl, ap, ◌∙◌}
use Rattle.std.specs.Prelude.{if◌then◌else◌, nat_lt, nat_le, nat_eq}
use Rattle.chunk_tags.specs.declared.tiles.Chunk.{Chunk}
use Rattle.chunk_tags.specs.declared.tunables.Tunables.{Tunables}
use Rattle.arena_rules.specs.declared.said.Said.{Said}
use Rattle.arena_rules.specs.PlainArena.{Plain}
use Rattle.arena_rules.specs.Moves.{Hand, hand, parted, joined_behind}
use Rattle.arena_rules.specs.Rules.{Rules, Stop, Misfit, Does, Needs, Maps, Counts, behind, place_told}
use Rattle.arena_rules.specs.Release.{released}
use Rattle.arena_rules.specs.Growth.{Found, InArena, InMapping, Nowhere, Took}
use Rattle.arena_rules.specs.Search.{searched}
use Rattle.arena_rules.specs.Mapped.{NeverMaps, MapsOnce, EndsMapped}
use Rattle.arena_rules.specs.KeptMappings.{StopsAs, IsInMapping, IsNotMapped, GoesOnMapped, KeepsMapping}
use Rattle.arena_rules.specs.Resize.{front_of, back_of, cut_behind, cut_to, fits_with_top, fits_with_free, is_next_to, joined_with, moved_from_old, resize_with, resize_of}
use Rattle.arena_rules.specs.Align.{size_with_lead, lead_of, tail_cut, aligned_in, align_with, align_of}
use Rattle.arena_rules.proofs.Mapped.{never_behind, never_if, released_never_maps, searched_maps_once}

-- ---- parts in a row, and branches

pub stops_behind : {A B : Type 0} (P : B → Type 0) (r : Rules A) (f : A → Rules B) → ((x : A) → StopsAs P (f x)) → StopsAs P (behind r f)
stops_behind P (Stop x) f k = k x
stops_behind P Misfit f k = tt
stops_behind P (Does d r) f k = stops_behind P r f k
stops_behind P (Needs a n g) f k = λ s. stops_behind P (g s) f k

pub stops_if : {A : Type 0} (P : A → Type 0) (b : Bool) (x y : Rules A) → StopsAs P x → StopsAs P y → StopsAs P (if b then x else y)
stops_if P true x y h k = h
stops_if P false x y h k = k

within_if : (nb : ℕ) (b : Bool) (x y : Rules Took) → KeepsMapping nb x → KeepsMapping nb y → KeepsMapping nb (if b then x else y)
within_if nb true x y h k = h
within_if nb false x y h k = k

-- rules that never map and end without a mapping
pub once_never : (nb : ℕ) (r : Rules Took) → NeverMaps r → StopsAs IsNotMapped r → MapsOnce nb r
once_never nb (Stop x) never ends = ends
once_never nb Misfit never ends = tt
once_never nb (Does (Counts len) r) never ends = absurd never
once_never nb (Does d r) never ends = once_never nb r never ends
once_never nb (Needs a (Maps len) g) never ends = absurd never
once_never nb (Needs a n g) never ends = λ s. once_never nb (g s) (never s) (ends s)

pub within_never : (nb : ℕ) (r : Rules Took) → NeverMaps r → StopsAs IsNotMapped r → KeepsMapping nb r
within_never nb (Stop x) never ends = ends
within_never nb Misfit never ends = tt
within_never nb (Does (Counts len) r) never ends = absurd never
within_never nb (Does d r) never ends = within_never nb r never ends
within_never nb (Needs a (Maps len) g) never ends = absurd never
within_never nb (Needs a n g) never ends = λ s. within_never nb (g s) (never s) (ends s)

-- what follows a search never maps, and ends with a mapping exactly where the search did
pub record KeepsFound (f : Took → Rules Took) : Type 0 where
  pub never : (x : Took) → NeverMaps (f x)
  pub mapped : (c : Chunk) (a : Plain) → StopsAs (IsInMapping c) (f (record { found = InMapping c; arena = a }))
  pub not_mapped : (x : Took) → IsNotMapped x → StopsAs IsNotMapped (f x)

goes_on : (len : ℕ) (s : Said) (r : Rules Took) (f : Took → Rules Took) → KeepsFound f → EndsMapped len s r → GoesOnMapped len s (behind r f)
goes_on len s r f k e =
    let took : Took = record { found = InMapping (record { at = place_told s; size = len }); arena = e.arena } in
    record {
      rest = f took;
      is = ap (λ (q : Rules Took). behind q f) e.is;
      never = k.never took;
      ends = k.mapped (record { at = place_told s; size = len }) e.arena;
    }

pub within_behind : (nb : ℕ) (r : Rules Took) (f : Took → Rules Took) → MapsOnce nb r → KeepsFound f → KeepsMapping nb (behind r f)
within_behind nb (Stop x) f m k = within_never nb (f x) (k.never x) (k.not_mapped x m)
within_behind nb Misfit f m k = tt
within_behind nb (Does (Counts len) r) f m k = absurd m
within_behind nb (Does d r) f m k = within_behind nb r f m k
within_behind nb (Needs a (Maps len) g) f m k =
    (m.0, λ s. (λ is. goes_on len s (g s) f k ((m.1 s).0 is), λ is. within_behind nb (g s) f ((m.1 s).1 is) k))
within_behind nb (Needs a n g) f m k = λ s. within_behind nb (g s) f (m s) k

-- what follows a search leaves a mapping as it is, and never ends with another
pub record LeavesMapped (f : Took → Rules Took) : Type 0 where
  pub mapped : (c : Chunk) (a : Plain) → f (record { found = InMapping c; arena = a }) ≡ Stop (record { found = InMapping c; arena = a })
  pub never : (x : Took) → NeverMaps (f x)
  pub not_mapped : (x : Took) → IsNotMapped x → StopsAs IsNotMapped (f x)

ends_mapped : (len : ℕ) (s : Said) (r : Rules Took) (f : Took → Rules Took) → LeavesMapped f → EndsMapped len s r → EndsMapped len s (behind r f)
ends_mapped len s r f k e = record {
  arena = e.arena;
  is = ap (λ (q : Rules Took). behind q f) e.is ∙ ap (λ (q : Rules Took). Does (Counts len) q) (k.mapped (record { at = place_told s; size = len }) e.arena);
}

pub once_behind : (nb : ℕ) (r : Rules Took) (f : Took → Rules Took) → MapsOnce nb r → LeavesMapped f → MapsOnce nb (behind r f)
once_behind nb (Stop x) f m k = once_never nb (f x) (k.never x) (k.not_mapped x m)
once_behind nb Misfit f m k = tt
once_behind nb (Does (Counts len) r) f m k = absurd m
once_behind nb (Does d r) f m k = once_behind nb r f m k
once_behind nb (Needs a (Maps len) g) f m k =
    (m.0, λ s. (λ is. ends_mapped len s (g s) f k ((m.1 s).0 is), λ is. once_behind nb (g s) f ((m.1 s).1 is) k))
once_behind nb (Needs a n g) f m k = λ s. once_behind nb (g s) f (m s) k

-- ---- cutting and moving

pub cut_behind_never_maps : (t : Tunables) (nb : ℕ) (h : Hand) → NeverMaps (cut_behind t nb h)
cut_behind_never_maps t nb h =
    never_behind (released t (parted h.arena h.chunk nb) (back_of h.chunk nb)) _ (released_never_maps t (parted h.arena h.chunk nb) (back_of h.chunk nb)) (λ b. tt)

cut_behind_ends : (t : Tunables) (nb : ℕ) (h : Hand) → StopsAs IsNotMapped (cut_behind t nb h)
cut_behind_ends t nb h = stops_behind IsNotMapped (released t (parted h.arena h.chunk nb) (back_of h.chunk nb)) _ (λ b c is. absurd cc)

pub cut_to_never_maps : (t : Tunables) (nb : ℕ) (h : Hand) → NeverMaps (cut_to t nb h)
cut_to_never_maps t nb h = never_if (nat_lt (h.chunk.size - nb) 32) _ _ tt (cut_behind_never_maps t nb h)

cut_to_ends : (t : Tunables) (nb : ℕ) (h : Hand) → StopsAs IsNotMapped (cut_to t nb h)
cut_to_ends t nb h = stops_if IsNotMapped (nat_lt (h.chunk.size - nb) 32) _ _ (λ c is. absurd cc) (cut_behind_ends t nb h)

pub moved_never_maps : (t : Tunables) (c : Chunk) (took : Took) → NeverMaps (moved_from_old t c took)
moved_never_maps t c took = never_behind (released t took.arena c) _ (released_never_maps t took.arena c) (λ b. tt)

moved_ends : (P : Found → Type 0) (t : Tunables) (c : Chunk) (took : Took) → P took.found → StopsAs (λ x. P x.found) (moved_from_old t c took)
moved_ends P t c took h = stops_behind (λ x. P x.found) (released t took.arena c) _ (λ b. h)

-- ---- a resize

resize_never : (t : Tunables) (c : Chunk) (nb : ℕ) (found : Found) (a : Plain) → NeverMaps (resize_with t c nb (record { found = found; arena = a }))
resize_never t c nb (InArena d) a =
    never_if (is_next_to c d) _ _ (cut_to_never_maps t nb (joined_with (hand c a) d)) (moved_never_maps t c (record { found = InArena d; arena = a }))
resize_never t c nb (InMapping d) a = moved_never_maps t c (record { found = InMapping d; arena = a })
resize_never t c nb Nowhere a = tt

resize_ends : (t : Tunables) (c : Chunk) (nb : ℕ) (found : Found) (a : Plain) → IsNotMapped (record { found = found; arena = a }) → StopsAs IsNotMapped (resize_with t c nb (record { found = found; arena = a }))
resize_ends t c nb (InArena d) a h =
    stops_if IsNotMapped (is_next_to c d) _ _ (cut_to_ends t nb (joined_with (hand c a) d)) (moved_ends (λ found. (e : Chunk) → found ≡ InMapping e → ⊥) t c (record { found = InArena d; arena = a }) h)
resize_ends t c nb (InMapping d) a h = absurd (h d refl)
resize_ends t c nb Nowhere a h = h

resize_keeps_found : (t : Tunables) (c : Chunk) (nb : ℕ) → KeepsFound (resize_with t c nb)
resize_keeps_found t c nb = record {
  never = λ x. resize_never t c nb x.found x.arena;
  mapped = λ d a. moved_ends (λ found. found ≡ InMapping d) t c (record { found = InMapping d; arena = a }) refl;
  not_mapped = λ x h. resize_ends t c nb x.found x.arena h;
}

pub resize_maps_within : (t : Tunables) (a : Plain) (c : Chunk) (nb : ℕ) → KeepsMapping nb (resize_of t a c nb)
resize_maps_within t a c nb =
    let cut : (h : Hand) → KeepsMapping nb (cut_to t nb h) = λ h. within_never nb (cut_to t nb h) (cut_to_never_maps t nb h) (cut_to_ends t nb h) in
    within_if nb (nat_le nb c.size) _ _ (cut (hand c a))
    (within_if nb (fits_with_top a c nb) _ _ (λ d is. absurd cc)
    (within_if nb (fits_with_free a c nb) _ _ (cut (joined_behind (hand c a)))
    (within_behind nb (searched t nb a) (resize_with t c nb) (searched_maps_once t nb a) (resize_keeps_found t c nb))))

-- ---- a search for an aligned chunk

pub tail_cut_never_maps : (t : Tunables) (nb : ℕ) (h : Hand) → NeverMaps (tail_cut t nb h)
tail_cut_never_maps t nb h = never_if (nat_lt (nb + 32) h.chunk.size) _ _ (cut_behind_never_maps t nb h) tt

tail_cut_ends : (t : Tunables) (nb : ℕ) (h : Hand) → StopsAs IsNotMapped (tail_cut t nb h)
tail_cut_ends t nb h = stops_if IsNotMapped (nat_lt (nb + 32) h.chunk.size) _ _ (cut_behind_ends t nb h) (λ c is. absurd cc)

pub aligned_in_never_maps : (t : Tunables) (align nb : ℕ) (h : Hand) → NeverMaps (aligned_in t align nb h)
aligned_in_never_maps t align nb h =
    let lead : ℕ = lead_of align h.chunk.at in
    let off : Plain = parted h.arena h.chunk lead in
    never_if (nat_eq lead 0) _ _ (tail_cut_never_maps t nb h)
    (never_behind (released t off (front_of h.chunk lead)) _ (released_never_maps t off (front_of h.chunk lead)) (λ b. tail_cut_never_maps t nb (hand (back_of h.chunk lead) b)))

aligned_in_ends : (t : Tunables) (align nb : ℕ) (h : Hand) → StopsAs IsNotMapped (aligned_in t align nb h)
aligned_in_ends t align nb h =
    let lead : ℕ = lead_of align h.chunk.at in
    let off : Plain = parted h.arena h.chunk lead in
    stops_if IsNotMapped (nat_eq lead 0) _ _ (tail_cut_ends t nb h)
    (stops_behind IsNotMapped (released t off (front_of h.chunk lead)) _ (λ b. tail_cut_ends t nb (hand (back_of h.chunk lead) b)))

align_never : (t : Tunables) (align nb : ℕ) (found : Found) (a : Plain) → NeverMaps (align_with t align nb (record { found = found; arena = a }))
align_never t align nb (InArena c) a = aligned_in_never_maps t align nb (hand c a)
align_never t align nb (InMapping c) a = tt
align_never t align nb Nowhere a = tt

align_ends : (t : Tunables) (align nb : ℕ) (found : Found) (a : Plain) → IsNotMapped (record { found = found; arena = a }) → StopsAs IsNotMapped (align_with t align nb (record { found = found; arena = a }))
align_ends t align nb (InArena c) a h = aligned_in_ends t align nb (hand c a)
align_ends t align nb (InMapping c) a h = absurd (h c refl)
align_ends t align nb Nowhere a h = h

align_leaves_mapped : (t : Tunables) (align nb : ℕ) → LeavesMapped (align_with t align nb)
align_leaves_mapped t align nb = record {
  mapped = λ c a. refl;
  never = λ x. align_never t align nb x.found x.arena;
  not_mapped = λ x h. align_ends t align nb x.found x.arena h;
}

pub align_maps_once : (t : Tunables) (align nb : ℕ) (a : Plain) → MapsOnce (size_with_lead align nb) (align_of t align nb a)
align_maps_once t align nb a =
    once_behind (size_with_lead align nb) (searched t (size_with_lead align nb) a) (align_with t align nb) (searched_maps_once t (size_with_lead align nb) a) (align_leaves_mapped t align nb)
