-- Nothing is found only where an ask was refused, for this crate: where none is, top suffices after two turns of the break
-- at most.
use Rattle.std.proofs.Common.{◌≡◌, ℕ, ◌+◌, ◌<◌, ◌≤◌, Bool, true, false, ◌&&◌, ◌||◌, not, cond, List, [], ◌∷◌, Option, Some, None, IsTrue, inl, inr, refl, sym, ap, ◌∙◌, subst, arith}
use Rattle.std.specs.Prelude.{◌⊎◌, nat_eq, nat_lt, nat_le, if◌then◌else◌, Result, Ok, Err, IfOk, IsSome}
use Rattle.std.proofs.lemmas.Bool.{cond-true, leb-false, ltb-false, eq-eqb, le-leb, true≢false}
use Rattle.chunk_tags.specs.Dials.{MappedCount}
use Rattle.chunk_tags.specs.Pages.{mapping_length}
use Rattle.chunk_tags.specs.Tunables.{main_limit}
use Rattle.chunk_tags.specs.declared.tiles.Chunk.{Chunk}
use Rattle.chunk_tags.specs.Tiles.{is_top, swapped, tile_at, top_of}
use Rattle.chunk_tags.specs.declared.tiles.Tile.{Tile}
use Rattle.chunk_tags.specs.declared.tiles.TileKind.TheVariants.{Top}
use Rattle.chunk_tags.specs.declared.tunables.Tunables.{Tunables}
use Rattle.address_space.specs.Ports.{Rose}
use Rattle.address_space.specs.Spaces.{space_refusals, main_start}
use Rattle.address_space.specs.declared.asks.Ask.{Ask}
use Rattle.address_space.specs.declared.asks.Ask.TheVariants as asks
use Rattle.address_space.specs.declared.asks.Answer.TheVariants.{Granted, Refused}
use Rattle.arena_rules.specs.PlainArena.{Plain, IsSound, is_main, once_of}
use Rattle.arena_rules.specs.Heaps.{heap_extended, last_heap, last_length}
use Rattle.arena_rules.specs.MainPlaces.{IsMainPlaced, IsPlaced}
use Rattle.arena_rules.specs.Moves.{tile_of, top_size, top_end, top_start, cut_from_top, left_of_top, with_tiles}
use Rattle.arena_rules.specs.Growth as growth
use Rattle.arena_rules.specs.Growth.{Took, closing, top_part, main_growth, has_top_for, break_taken, break_rest, is_top_at_break, main_grown, piece_grown, from_top, noted, mapping, maps_first, maps_else, grown, extension_bytes, next_heap_grown, heaps_grown, cut_from_grown, grown_again, other_grown, system_asked}
use Rattle.arena_rules.specs.Rules.{Rules, Stop, Misfit, Does, Needs, Need, Flagged, Pops, Owns, Rooms, Asks, Maps, Reads, Counts, behind, reads, fits, flag_of, number_told, place_told, same_ask, passes_window, windows_of, is_refused}
use Rattle.arena_rules.specs.Walks as walks
use Rattle.arena_rules.specs.Walks.{Walks, Reaches}
use Rattle.arena_rules.specs.declared.said.Said.{Said}
use Rattle.arena_rules.specs.declared.said.Said.TheVariants as told
use Rattle.arena_rules.proofs.Bins.{once_self}
use Rattle.arena_rules.proofs.ChunkMoves.{own_from}
use Rattle.arena_rules.proofs.MainPlaces.{IsGrowth, break_grown}
use Rattle.arena_rules.proofs.Tops.{top_found}
use Rattle.consolidate_trim.specs.Outside.{Means, Outside, AnswerGoes, ways}
use Rattle.arena_growth.specs.Ledgers.{Stage}
use Rattle.arena_growth.specs.Asking.{IsReady, IsSearchable, found_of}
use Rattle.arena_growth.specs.Asking as asked
use Rattle.chunk_tags.specs.declared.refusals.NoMemory.{NoMemory}
use Rattle.arena_growth.specs.declared.found.Found.{Found}
use Rattle.arena_growth.specs.declared.found.Found.TheVariants.{Nowhere}
use Rattle.arena_growth.proofs.Endings.{EndsAtBreak, AllEnd, break_taken_ends, at_break_suffices, closing_ends}
use Rattle.arena_growth.proofs.Refusals.{refusals_of, same_refusals, goes_refusals, does_refusals, walked_refusals, rose_on, rose_from}

-- ---- rules of which no ask is refused

abbrev is_refusal : Said → Bool
is_refusal (told.Asked ask answer) = is_refused answer
is_refusal s = false

-- what all ends have then
abbrev EndsGranted : {A : Type 0} → Tunables → (A → Type 0) → Rules A → Type 0
EndsGranted t Q (Stop x) = Q x
EndsGranted t Q Misfit = Unit {0}
EndsGranted t Q (Does d r) = EndsGranted t Q r
EndsGranted t Q (Needs a n f) = (s : Said) → IsTrue (fits t n s) → is_refusal s ≡ false → EndsGranted t Q (f s)

all_granted : {A : Type 0} (t : Tunables) (Q : A → Type 0) (r : Rules A) → AllEnd Q r → EndsGranted t Q r
all_granted t Q (Stop x) h = h
all_granted t Q Misfit h = tt
all_granted t Q (Does d r) h = all_granted t Q r h
all_granted t Q (Needs a n f) h = λ s fit granted. all_granted t Q (f s) (h s)

granted_behind : {A B : Type 0} (t : Tunables) (P : A → Type 0) (Q : B → Type 0) (r : Rules A) (f : A → Rules B) → EndsGranted t P r → ((x : A) → P x → EndsGranted t Q (f x)) → EndsGranted t Q (behind r f)
granted_behind t P Q (Stop x) f h k = k x h
granted_behind t P Q Misfit f h k = tt
granted_behind t P Q (Does d r) f h k = granted_behind t P Q r f h k
granted_behind t P Q (Needs a n g) f h k = λ s fit granted. granted_behind t P Q (g s) f (h s fit granted) k

-- ---- a refused ask raised the count

goes_rose : {P K : Type 0} (m : Means P K) (o p : Outside P K) (n : Need) (s : Said) → AnswerGoes m o n s p → is_refusal s ≡ true → Rose (refusals_of m o) (refusals_of m p)
goes_rose m o p Flagged (told.Flag b) h e = absurd cc
goes_rose m o p (Pops bin) (told.Popped at) h e = absurd cc
goes_rose m o p (Owns bin) (told.Own at) h e = absurd cc
goes_rose m o p (Rooms size) (told.Room b) h e = absurd cc
goes_rose m o p (Asks ask) (told.Asked asked Granted) h e = absurd cc
goes_rose m o p (Asks ask) (told.Asked asked Refused) h e = h.asks.cause refl
goes_rose m o p (Maps len) (told.Asked asked Granted) h e = absurd cc
goes_rose m o p (Maps len) (told.Asked asked Refused) h e = h.maps.cause refl
goes_rose m o p (Reads which) (told.Dial n) h e = absurd cc
goes_rose m o p n s h e = absurd h

granted_or_rose : {P K A : Type 0} {m : Means P K} {number : ℕ} {t : Tunables} {r q : Rules A} {o z : Outside P K} {ss : List Said} (Q : A → Type 0) →
    Walks t (ways m number) r o ss q z → EndsGranted t Q r → (EndsGranted t Q q) ⊎ (Rose (refusals_of m o) (refusals_of m z))
granted_or_rose Q walks.here h = inl h
granted_or_rose {P = P} {K = K} {m = m} {z = z} Q (walks.idled {o = o} {p = p} i a) h = elim (granted_or_rose {m = m} Q a h) [
  | inl k ↦ inl k
  | inr rose ↦ inr (rose_from (refusals_of m o) (refusals_of m p) (refusals_of m z) (same_refusals m o p (ap (λ (x : Outside P K). x.space) i.others)) rose)
]
granted_or_rose {m = m} {number = number} {z = z} Q (walks.done {d = d} {o = o} {p = p} g a) h = elim (granted_or_rose {m = m} Q a h) [
  | inl k ↦ inl k
  | inr rose ↦ inr (rose_from (refusals_of m o) (refusals_of m p) (refusals_of m z) (does_refusals m number o p d g) rose)
]
granted_or_rose {A = A} {m = m} {t = t} {q = q} {z = z} Q (walks.told {n = n} {s = s} {o = o} {p = p} fit g a) h =
    let cases : (b : Bool) → is_refusal s ≡ b → (EndsGranted t Q q) ⊎ (Rose (refusals_of m o) (refusals_of m z)) = elim [
      | true ↦ λ is. inr (rose_on (refusals_of m o) (refusals_of m p) (refusals_of m z) (goes_rose m o p n s g is) (walked_refusals {m = m} a))
      | false ↦ λ is. elim (granted_or_rose {m = m} Q a (h s fit is)) [
        | inl k ↦ inl k
        | inr rose ↦ inr (rose_from (refusals_of m o) (refusals_of m p) (refusals_of m z) (goes_refusals m o p n s g) rose)
      ]
    ] in
    cases (is_refusal s) refl

-- ---- what a granted ask was told

and_second : (x y : Bool) → (x && y) ≡ true → y ≡ true
and_second true y e = e
and_second false y e = absurd cc

not_or : (x : Bool) → (not x || false) ≡ true → x ≡ false
not_or true e = absurd cc
not_or false e = refl

fits_ask : (t : Tunables) (ask : Ask) (s : Said) → IsTrue (fits t (Asks ask) s) → is_refusal s ≡ false → (flag_of s ≡ true) × (passes_window (windows_of t) ask ≡ false)
fits_ask t ask (told.Asked asked Granted) fit granted = (refl, not_or (passes_window (windows_of t) ask) (and_second (same_ask ask asked) (not (passes_window (windows_of t) ask) || false) fit))
fits_ask t ask (told.Asked asked Refused) fit granted = absurd cc
fits_ask t ask s fit granted = absurd cc

fits_map : (t : Tunables) (len : ℕ) (s : Said) → IsTrue (fits t (Maps len) s) → is_refusal s ≡ false → flag_of s ≡ true
fits_map t len (told.Asked asked Granted) fit granted = refl
fits_map t len (told.Asked asked Refused) fit granted = absurd cc
fits_map t len s fit granted = absurd cc

-- ---- the break was granted

-- main, as it asks for the break
pub record Asking (t : Tunables) (nb : ℕ) (a : Plain) : Type 0 where
  pub sound : IsSound a
  pub main : IsTrue (is_main a)
  pub placed : IsMainPlaced a
  pub short : has_top_for a nb ≡ false
  pub window : t.main_max ≤ main_limit

granted_growth : (t : Tunables) (nb : ℕ) (a : Plain) → Asking t nb a → passes_window (windows_of t) (asks.Break a.break_at (a.break_at + main_growth t a nb)) ≡ false →
    IsGrowth a (break_taken a (main_growth t a nb)) (λ e. once_of e (break_rest a)) a.break_at (main_growth t a nb)
granted_growth t nb a p within =
    let less : top_size a < nb + 32 = leb-false (nb + 32) (top_size a) p.short in
    let part : (b : Bool) → cond b (top_size a) 0 < nb + 32 = λ b. elim b as (λ b. cond b (top_size a) 0 < nb + 32) [ true ↦ less | false ↦ omega arith ] in
    let top : top_part a < nb + 32 = part a.contiguous in
    let end : a.break_at + main_growth t a nb ≤ main_start + t.main_max = ltb-false (main_start + t.main_max) (a.break_at + main_growth t a nb) within in
    break_grown a (main_growth t a nb) p.sound p.placed (omega arith) (omega arith) (omega (arith, end, p.window))

granted_ends : (t : Tunables) (nb : ℕ) (a : Plain) → Asking t nb a → passes_window (windows_of t) (asks.Break a.break_at (a.break_at + main_growth t a nb)) ≡ false →
    AllEnd EndsAtBreak (closing t (break_rest a) (break_taken a (main_growth t a nb)))
granted_ends t nb a p within =
    let g : IsGrowth a (break_taken a (main_growth t a nb)) (λ e. once_of e (break_rest a)) a.break_at (main_growth t a nb) = granted_growth t nb a p within in
    let taken : Plain = break_taken a (main_growth t a nb) in
    closing_ends t (break_rest a) taken (break_taken_ends a (main_growth t a nb) p.sound p.main (omega (arith, p.placed.start)) g.moved.sound g.placed)
    (λ c is. own_from taken c (omega (arith, g.moved.used c, ap (once_of c) is, once_self c)))

-- ---- two turns suffice

abbrev Suffices : ℕ → Plain → Type 0
Suffices nb b = has_top_for b nb ≡ true

last_turn : (t : Tunables) (nb : ℕ) (a : Plain) → Asking t nb a → top_end a ≡ a.break_at → EndsGranted t (Suffices nb) (main_grown 1 t nb a)
last_turn t nb a p end = λ s fit granted.
    let taken : Plain = break_taken a (main_growth t a nb) in
    let k = fits_ask t (asks.Break a.break_at (a.break_at + main_growth t a nb)) s fit granted in
    let g : IsGrowth a taken (λ e. once_of e (break_rest a)) a.break_at (main_growth t a nb) = granted_growth t nb a p k.1 in
    let enough : has_top_for taken nb ≡ true = at_break_suffices t nb a p.sound (omega (arith, p.placed.start)) end g.moved.sound in
    let none : break_rest a ≡ None = cond-true {A = Option Chunk} (is_top_at_break a) None (left_of_top a) (eq-eqb (top_end a) a.break_at end) in
    let after : Plain → Rules Plain = λ b. if has_top_for b nb then Stop b else main_grown 0 t nb b in
    let stops : EndsGranted t (Suffices nb) (after taken) = subst (λ (x : Bool). EndsGranted t (Suffices nb) (if x then Stop taken else main_grown 0 t nb taken)) (sym enough) enough in
    subst (λ (x : Bool). EndsGranted t (Suffices nb) (if x then behind (closing t (break_rest a) taken) after else piece_grown t nb a)) (sym k.0)
    (subst (λ (o : Option Chunk). EndsGranted t (Suffices nb) (behind (closing t o taken) after)) (sym none) stops)

two_turns : (t : Tunables) (nb : ℕ) (a : Plain) → Asking t nb a → EndsGranted t (Suffices nb) (main_grown 2 t nb a)
two_turns t nb a p = λ s fit granted.
    let taken : Plain = break_taken a (main_growth t a nb) in
    let k = fits_ask t (asks.Break a.break_at (a.break_at + main_growth t a nb)) s fit granted in
    let after : Plain → Rules Plain = λ b. if has_top_for b nb then Stop b else main_grown 1 t nb b in
    let ends : (b : Plain) → EndsAtBreak b → EndsGranted t (Suffices nb) (after b) = λ b e.
    let cases : (x : Bool) → has_top_for b nb ≡ x → EndsGranted t (Suffices nb) (if x then Stop b else main_grown 1 t nb b) = elim [
      | true ↦ λ is. is
      | false ↦ λ is. last_turn t nb b (record { sound = e.sound; main = e.main; placed = e.placed; short = is; window = p.window }) e.end
    ] in
    cases (has_top_for b nb) refl in
    subst (λ (x : Bool). EndsGranted t (Suffices nb) (if x then behind (closing t (break_rest a) taken) after else piece_grown t nb a)) (sym k.0)
    (granted_behind t EndsAtBreak (Suffices nb) (closing t (break_rest a) taken) after (all_granted t EndsAtBreak (closing t (break_rest a) taken) (granted_ends t nb a p k.1)) ends)

-- ---- something is found

abbrev Finds : Took → Type 0
Finds x = x.found ≡ growth.Nowhere → ⊥

finds_in_top : (nb : ℕ) (b : Plain) → has_top_for b nb ≡ true → Finds (from_top nb (noted b))
finds_in_top nb b enough nowhere =
    let x : Took = record { found = growth.InArena (record { at = top_start (noted b); size = nb }); arena = cut_from_top (noted b) nb } in
    let y : Took = record { found = growth.Nowhere; arena = noted b } in
    let is : growth.InArena (record { at = top_start (noted b); size = nb }) ≡ growth.Nowhere = sym (ap (λ (z : Took). z.found) (cond-true {A = Took} (has_top_for b nb) x y enough)) ∙ nowhere in
    absurd cc

main_finds : (t : Tunables) (nb : ℕ) (a : Plain) → Asking t nb a → EndsGranted t Finds (behind (main_grown 2 t nb a) (cut_from_grown nb))
main_finds t nb a p = granted_behind t (Suffices nb) Finds (main_grown 2 t nb a) (cut_from_grown nb) (two_turns t nb a p) (λ b enough. finds_in_top nb b enough)

-- ---- another arena: its last heap is extended so far that top suffices

top_resized : (ts : List Tile) (t x : Tile) → top_of ts ≡ Some t → tile_at t.addr ts ≡ Some t → is_top x ≡ true → top_of (swapped t.addr (x ∷ []) ts) ≡ Some x
top_resized [] t x e found top = absurd cc
top_resized (u ∷ us) t x e found top =
    let cases : (b d : Bool) → nat_eq u.addr t.addr ≡ b → is_top u ≡ d → cond d (Some u) (top_of us) ≡ Some t → cond b (Some u) (tile_at t.addr us) ≡ Some t → top_of (cond b (x ∷ us) (u ∷ swapped t.addr (x ∷ []) us)) ≡ Some x = elim [
      | true ↦ λ d here kind e found. ap (λ (c : Bool). cond c (Some x) (top_of us)) top
      | false ↦ elim [
        | true ↦ λ here kind e found. let same : u ≡ t = cc in absurd (true≢false (sym (eq-eqb u.addr t.addr (ap (λ (v : Tile). v.addr) same)) ∙ here))
        | false ↦ λ here kind e found. ap (λ (c : Bool). cond c (Some u) (top_of (swapped t.addr (x ∷ []) us))) kind ∙ top_resized us t x e found top
      ]
    ] in
    cases (nat_eq u.addr t.addr) (is_top u) refl refl e found

extended_suffices : (nb : ℕ) (a : Plain) → IsSound a → IsSome (top_of a.tiles) → has_top_for (heap_extended a (extension_bytes a nb)) nb ≡ true
extended_suffices nb a s some =
    let growth : ℕ = extension_bytes a nb in
    let now : ℕ = top_size a + growth in
    let b : Plain = record a { system = a.system + growth } in
    let sized : Option Tile → Plain = λ o. elim o [ None ↦ b | Some t ↦ with_tiles b t.addr (tile_of Top t.addr now ∷ []) ] in
    let cases : (o : Option Tile) → top_of a.tiles ≡ o → IsSome o → has_top_for (heap_extended a growth) nb ≡ true = elim [
      | None ↦ λ is none. absurd cc
      | Some t ↦ λ is h.
          let x : Tile = tile_of Top t.addr now in
          let tiles : (heap_extended a growth).tiles ≡ swapped t.addr (x ∷ []) a.tiles = ap (λ (o : Option Tile). (sized o).tiles) is in
          let top : top_of (heap_extended a growth).tiles ≡ Some x = ap top_of tiles ∙ top_resized a.tiles t x is (top_found t a.tiles s.row is).found refl in
          let size : top_size (heap_extended a growth) ≡ now = ap (λ (o : Option Tile). elim o [ None ↦ 0 | Some t ↦ t.size ]) top in
          le-leb (nb + 32) (top_size (heap_extended a growth)) (omega (arith, size))
    ] in
    cases (top_of a.tiles) refl some

-- what the heaps came to suffices
abbrev SufficesIn : ℕ → Option Plain → Type 0
SufficesIn nb o = elim o [ None ↦ ⊥ | Some b ↦ Suffices nb b ]

heaps_suffice : (t : Tunables) (nb : ℕ) (a : Plain) → IsSound a → IsSome (top_of a.tiles) → EndsGranted t (SufficesIn nb) (heaps_grown t nb a)
heaps_suffice t nb a s some = λ said fit granted.
    let k = fits_ask t (asks.GrowHeap a.number (last_heap a) (last_length a) (last_length a + extension_bytes a nb)) said fit granted in
    subst (λ (x : Bool). EndsGranted t (SufficesIn nb) (if x then Stop (Some (heap_extended a (extension_bytes a nb))) else next_heap_grown t nb a)) (sym k.0) (extended_suffices nb a s some)

other_finds : (t : Tunables) (nb : ℕ) (a : Plain) (tried : Bool) → IsSound a → IsSome (top_of a.tiles) → EndsGranted t Finds (other_grown t nb tried a)
other_finds t nb a tried s some =
    let after : Option Plain → Rules Took = λ o. elim o [ Some b ↦ cut_from_grown nb b | None ↦ if tried then cut_from_grown nb a else maps_else nb a (grown_again t nb a) ] in
    let finds : (o : Option Plain) → SufficesIn nb o → EndsGranted t Finds (after o) = elim [
      | None ↦ λ none. absurd none
      | Some b ↦ λ enough. finds_in_top nb b enough
    ] in
    granted_behind t (SufficesIn nb) Finds (heaps_grown t nb a) after (heaps_suffice t nb a s some) finds

-- ---- an arena that asks the system

pub record AsksSystem (t : Tunables) (nb : ℕ) (a : Plain) : Type 0 where
  pub sound : IsSound a
  pub placed : IsPlaced a
  pub top : is_main a ≡ false → IsSome (top_of a.tiles)
  pub short : has_top_for a nb ≡ false
  pub window : t.main_max ≤ main_limit

grown_finds : (t : Tunables) (nb : ℕ) (a : Plain) (tried : Bool) → AsksSystem t nb a → EndsGranted t Finds (grown t nb tried a)
grown_finds t nb a tried p =
    let cases : (b : Bool) → is_main a ≡ b → EndsGranted t Finds (if b then behind (main_grown 2 t nb a) (cut_from_grown nb) else other_grown t nb tried a) = elim [
      | true ↦ λ is. main_finds t nb a (record { sound = p.sound; main = is; placed = p.placed is; short = p.short; window = p.window })
      | false ↦ λ is. other_finds t nb a tried p.sound (p.top is)
    ] in
    cases (is_main a) refl

-- a granted mapping has a chunk
mapped_some : (t : Tunables) (nb : ℕ) (a : Plain) → EndsGranted t (λ (o : Option Chunk). o ≡ None → ⊥) (mapping nb a)
mapped_some t nb a = λ s fit granted.
    subst (λ (x : Bool). EndsGranted t (λ (o : Option Chunk). o ≡ None → ⊥) (if x then Does (Counts (mapping_length nb)) (Stop (Some (record { at = place_told s; size = mapping_length nb }))) else Stop None))
    (sym (fits_map t (mapping_length nb) s fit granted)) (λ none. absurd cc)

mapped_finds : (t : Tunables) (nb : ℕ) (a : Plain) (refused : Rules Took) → EndsGranted t Finds (maps_else nb a refused)
mapped_finds t nb a refused =
    let finds : (o : Option Chunk) → (o ≡ None → ⊥) → EndsGranted t Finds (elim o [ Some c ↦ Stop (record { found = growth.InMapping c; arena = a }) | None ↦ refused ]) = elim [
      | None ↦ λ some. absurd (some refl)
      | Some c ↦ λ some nowhere. absurd cc
    ] in
    granted_behind t (λ (o : Option Chunk). o ≡ None → ⊥) Finds (mapping nb a) (λ o. elim o [ Some c ↦ Stop (record { found = growth.InMapping c; arena = a }) | None ↦ refused ]) (mapped_some t nb a) finds

asked_finds : (t : Tunables) (nb : ℕ) (a : Plain) → AsksSystem t nb a → EndsGranted t Finds (system_asked t nb a)
asked_finds t nb a p =
    let whether : (x : Bool) → AllEnd (λ (b : Bool). Unit {0}) (if x then reads a MappedCount (λ count. Stop (nat_lt count t.mmaps_max)) else Stop false) = elim [ true ↦ λ s. tt | false ↦ tt ] in
    let after : (x : Bool) → EndsGranted t Finds (if x then maps_else nb a (grown t nb true a) else grown t nb false a) = elim [
      | true ↦ mapped_finds t nb a (grown t nb true a)
      | false ↦ grown_finds t nb a false p
    ] in
    granted_behind t (λ (b : Bool). Unit {0}) Finds (maps_first t nb a) (λ first. if first then maps_else nb a (grown t nb true a) else grown t nb false a)
    (all_granted t (λ (b : Bool). Unit {0}) (maps_first t nb a) (λ s. whether (nat_le (number_told s) nb))) (λ first any. after first)

-- where the rules end with nothing, the count of refusals rose
pub nowhere_rose : {P K : Type 0} {m : Means P K} {number : ℕ} {t : Tunables} {nb : ℕ} {a : Plain} {x : Took} {o z : Outside P K} {old new : List Said} →
    AsksSystem t nb a → Reaches t (ways m number) (system_asked t nb a) o old (Stop x) new z → x.found ≡ growth.Nowhere → Rose (refusals_of m o) (refusals_of m z)
nowhere_rose {m = m} {t = t} {nb = nb} {a = a} p reaches nowhere =
    elim (granted_or_rose {m = m} Finds reaches.walks (asked_finds t nb a p)) [
      | inl found ↦ absurd (found nowhere)
      | inr rose ↦ rose
    ]

asking : {P K : Type 0} {m : Means P K} {t : Tunables} {nb : ℕ} {x : Stage (Outside P K)} → IsReady m t x → IsSearchable t → (is_main x.arena ≡ false → IsSome (top_of x.arena.tiles)) → has_top_for x.arena nb ≡ false → AsksSystem t nb x.arena
asking ready tuned top short = record { sound = ready.backed.sound; placed = ready.placed; top = top; short = short; window = tuned.main }

pub nowhere_refused : {P K : Type 0} {m : Means P K} {t : Tunables} {x y : Stage (Outside P K)} (nb : ℕ) (result : Result Found NoMemory) →
    asked.Finds m t (system_asked t nb x.arena) x result y → IsReady m t x → IsSearchable t → (is_main x.arena ≡ false → IsSome (top_of x.arena.tiles)) → has_top_for x.arena nb ≡ false →
    IfOk result (λ found. found ≡ Nowhere → Rose (space_refusals m.kernel x.outside.space) (space_refusals m.kernel y.outside.space))
nowhere_refused nb (Ok found) f ready tuned top short = λ nowhere. nowhere_rose (asking ready tuned top short) f.walk.done (ap found_of nowhere)
nowhere_refused nb (Err e) f ready tuned top short = tt
