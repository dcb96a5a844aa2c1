-- Tuned words (mallopt of glibc 2.31 malloc/malloc.c): 0 max_fast, 1 top_pad, 2 mmaps_max, 3 dynamic, 4 arena_test, 5 arena_max,
-- each as its place times 2^32 plus its value. The place is this project's own: how many tuned entries main's journal has up to
-- the one that set it. No part of the rule speaks of them yet, since no entry tunes.
use Rattle.std.specs.Prelude.{◌≡◌, ℕ, ◌+◌, ◌*◌, ◌^◌, ◌≤◌, ◌⊎◌, Bool, false, Option as Maybe, Some, None, List, [], ◌∷◌, ◌++◌, zero, suc, slice_index, if◌then◌else◌, nat_eq}
use mathlib.Core.Option.{some}
use lib.ListN.{get_elem?}
use Rattle.chunk_tags.specs.declared.tunables.Tunables.{Tunables}
use Rattle.arena_core.specs.Journal.{Recorded}
use Rattle.board_types.specs.Views.{HomeValue, Taken, TuneValue, TunedView}
use Rattle.board_types.specs.Homes.{journal}

-- the value that a word starts with
abbrev pub started : Tunables → ℕ → ℕ
started t zero = t.max_fast
started t (suc zero) = t.top_pad
started t (suc (suc zero)) = t.mmaps_max
started t (suc (suc (suc zero))) = if t.dynamic then 1 else 0
started t (suc (suc (suc (suc zero)))) = t.arena_test
started t (suc (suc (suc (suc (suc w))))) = t.arena_max

-- what an entry of main's journal sets a word to; today none does
abbrev pub set_by : Recorded → ℕ → Maybe ℕ
set_by e w = None

-- whether it is a tuned entry; today none is
abbrev pub is_tuned : Recorded → Bool
is_tuned e = false

-- the place and value of a word behind a journal
abbrev pub tuned_from : ℕ → ℕ → TuneValue → List Recorded → TuneValue
tuned_from w n now [] = now
tuned_from w n now (e ∷ es) =
    let m : ℕ = if is_tuned e then n + 1 else n in
    tuned_from w m (elim (set_by e w) [ None ↦ now | Some x ↦ record { word = w; place = m; value = x } ]) es

-- the same from the start
abbrev pub tuned_at : Tunables → ℕ → List Recorded → TuneValue
tuned_at t w journal = tuned_from w 0 (record { word = w; place = 0; value = started t w }) journal

-- as a word
abbrev pub packed : TuneValue → ℕ
packed u = u.place * 2 ^ 32 + u.value

-- what tuned words see of a view: what it read and stored, and what it holds
abbrev pub Tuning : Type 0
Tuning = TunedView × Maybe Taken

-- this value was stored
abbrev pub IsStored : TuneValue → List TuneValue → Type 0
IsStored u [] = ⊥
IsStored u (s ∷ ss) = (s ≡ u) ⊎ IsStored u ss

-- A value that was read is the starting one, the word's own, or stood at some place of main's journal as it was last at home.
abbrev pub WasTuned : Tunables → List Recorded → List ℕ → TuneValue → Type 0
WasTuned t js words u =
    (u ≡ record { word = u.word; place = 0; value = started t u.word })
    ⊎ ((packed u ≡ slice_index words u.word) ⊎ ((xs ys : List Recorded) × (js ≡ xs ++ ys) × (tuned_at t u.word xs ≡ u)))

-- each value that was read is so, and of a place that the word has come to
abbrev pub AreTuned : Tunables → List Recorded → List ℕ → List TuneValue → Type 0
AreTuned t js words [] = Unit {0}
AreTuned t js words (u ∷ us) = WasTuned t js words u × (u.place ≤ slice_index words u.word) × AreTuned t js words us

-- the places read of a word are at most `most`, and fall from the newest read on
abbrev pub AreFalling : ℕ → ℕ → List TuneValue → Type 0
AreFalling w most [] = Unit {0}
AreFalling w most (u ∷ us) =
    (u.word ≡ w → u.place ≤ most) × AreFalling w (if nat_eq u.word w then u.place else most) us

-- What a part of the rule would say of them: a word is what main's journal has, or what main's holder stored.
pub record TunedWords (t : Tunables) (last : List HomeValue) (lock : ℕ) (words : List ℕ) (views : List Tuning) : Type 0 where
  pub at_home : (w : ℕ) (x : HomeValue) → get_elem? last 0 ≡ some x → lock ≡ 0 →
      slice_index words w ≡ packed (tuned_at t w (journal x))
  pub in_hand : (p w : ℕ) (x : HomeValue) (v : Tuning) → get_elem? views p ≡ some v → v.1 ≡ Some (record { home = 0; value = x }) →
      (slice_index words w ≡ packed (tuned_at t w (journal x)))
      ⊎ ((u : TuneValue) × (u.word ≡ w) × (slice_index words w ≡ packed u) × IsStored u v.0.stores)
  pub read : (p : ℕ) (x : HomeValue) (v : Tuning) → get_elem? views p ≡ some v → get_elem? last 0 ≡ some x →
      AreTuned t (journal x) words v.0.reads
  pub order : (p w : ℕ) (v : Tuning) → get_elem? views p ≡ some v → AreFalling w (2 ^ 32) v.0.reads
