-- What asking for a mapping goes through.
use Rattle.std.proofs.Common.{◌≡◌, ℕ, ◌+◌, ◌%◌, ◌^◌, ◌<◌, ◌≤◌, Bool, true, false, cond, List, [], ◌∷◌, ◌++◌, Option, Some, None, Result, Ok, refl, sym, ap, subst, arith}
use Rattle.std.specs.Prelude.{nat_le, nat_lt, if◌then◌else◌}
use Rattle.std.specs.Result.{IsErr}
use Rattle.std.proofs.lemmas.Bool.{eq-eqb}
use Rattle.std.proofs.lemmas.Bool.Decides.{nat_tests}
use Rattle.chunk_tags.specs.Pages.{mapping_length}
use Rattle.chunk_tags.specs.Dials.{Dial, MmapThreshold, MappedCount}
use Rattle.chunk_tags.specs.declared.refusals.NoMemory.{NoMemory}
use Rattle.chunk_tags.specs.declared.tiles.Chunk.{Chunk}
use Rattle.chunk_tags.specs.declared.tunables.Tunables.{Tunables}
use Rattle.address_space.specs.Spaces.{MapsWithin, map_place}
use Rattle.address_space.specs.declared.asks.Ask.TheVariants as asks
use Rattle.address_space.specs.declared.asks.Answer.TheVariants.{Granted, Refused}
use Rattle.address_space.specs.declared.space.Space.{Space}
use Rattle.thread_cache.specs.Caches.{CacheValue}
use Rattle.fast_bins.specs.FastPorts.{Fast}
use Rattle.mapped_chunks.specs.DialPorts as dial_steps
use Rattle.mapped_chunks.specs.DialPorts.{Dialled}
use Rattle.arena_rules.specs.declared.said.Said.{Said}
use Rattle.arena_rules.specs.declared.said.Said.TheVariants as told
use Rattle.arena_rules.specs.PlainArena.{Plain, IsSound}
use Rattle.arena_rules.specs.Growth.{mapping, maps_first}
use Rattle.arena_rules.specs.Rules.{Rules, Stop, Does, Counts, Maps, Reads, Need, reads, number_told, fits}
use Rattle.arena_rules.specs.Walks.{Reaches}
use Rattle.arena_rules.proofs.Walks.{reaches_then, reaches_told, reaches_done, short_here, short_then}
use Rattle.consolidate_trim.specs.Holds.{no_chunk}
use Rattle.consolidate_trim.specs.Outside.{Means, AreApart}
use Rattle.arena_growth.specs.Ledgers.{stage, full, word_ledger}
use Rattle.arena_growth.proofs.Balance.{balances_here, loses_from, works_ok, works_short}
use Rattle.arena_growth.proofs.Lifting.{IsPart}
use Rattle.arena_growth.proofs.Parts.{Passes, passes_then}
use Rattle.arena_growth.specs.Asking.{AsksMapping, AsksWhether, IsEnoughMapped, beside_arena}

-- whole pages from a page on
pub enough_mapped : (nb : ℕ) (c : Chunk) → c.size ≡ mapping_length nb → c.at % 4096 ≡ 0 → c.at + c.size < 2 ^ 64 → IsEnoughMapped nb c
enough_mapped nb c is page end = record { enough = record { chunk = (omega (arith, is), omega (arith, is)); room = omega (arith, is) }; page = page; end = end }

-- ---- words

word_goes : {P K : Type 0} (m : Means P K) (cache : CacheValue) (space : Space K) (o p : P) (n : Need) (s : Said) → ((word_ledger m.fast m.dials).ways 0).goes o n s p → ((full m).ways 0).goes (beside_arena o cache space) n s (beside_arena p cache space)
word_goes m cache space o p (Reads which) (told.Dial n) h = record { step = h; others = refl }
word_goes m cache space o p n s h = absurd h

-- the words alone, beside any cache and address space
pub word_part : {P K : Type 0} (m : Means P K) (cache : CacheValue) (space : Space K) → IsPart (word_ledger m.fast m.dials) (full m) (λ p. beside_arena p cache space)
word_part m cache space = record {
  embeds = λ n. record { goes = λ o p need s h. word_goes m cache space o p need s h; does = λ o p d h. absurd h; idles = λ o p h. absurd h };
  stock = λ o p e. omega arith;
  cached = λ n o p e. omega arith;
}

-- a word is read
pub reads_passes : {P A : Type 0} (fast : Fast P) (dials : Dialled P) (u : Tunables) (a : Plain) (which : Dial) (n : ℕ) (p q : P) (old : List Said) (f : ℕ → Rules A) → AreApart fast dials → IsSound a → dials.step p (dial_steps.Reads which n) q →
    Passes (word_ledger fast dials) u (reads a which f) (stage a p old) no_chunk (f n) (stage a q (old ++ told.Dial n ∷ []))
reads_passes fast dials u a which n p q old f apart s step = record {
  reaches = reaches_told {t = u} {w = (word_ledger fast dials).ways a.number} {a = a} {n = Reads which} {f = λ s. f (number_told s)} {o = p} {z = q} (told.Dial n) refl step;
  balances = record { sound = s; number = refl; windows = refl; placed = λ p. p; cached = λ e. omega arith; others = λ n other e. refl; kept = λ e. omega (arith, apart.stock p q (dial_steps.Reads which n) step e) };
}

abbrev after_threshold : Tunables → ℕ → Plain → ℕ → Rules Bool
after_threshold t nb a threshold = if nat_le threshold nb then reads a MappedCount (λ count. Stop (nat_lt count t.mmaps_max)) else Stop false

pub whether_short : {P : Type 0} (fast : Fast P) (dials : Dialled P) (t : Tunables) (nb : ℕ) (p : P) (old : List Said) (r : Result Bool NoMemory) → IsErr r → AsksWhether fast dials t nb p old r p old
whether_short fast dials t nb p old r is = record {
  works = λ u a s. works_short r is short_here (loses_from (balances_here (word_ledger fast dials) (stage a p old) old s));
  allows = λ d h. h;
}

pub whether_small : {P : Type 0} (fast : Fast P) (dials : Dialled P) (t : Tunables) (nb threshold : ℕ) (p q : P) (old : List Said) → AreApart fast dials → dials.step p (dial_steps.Reads MmapThreshold threshold) q → nb < threshold →
    AsksWhether fast dials t nb p old (Ok false) q (old ++ told.Dial threshold ∷ [])
whether_small fast dials t nb threshold p q old apart step lt =
    let test : nat_le threshold nb ≡ false = grind (arith, nat_tests) in
    record {
      works = λ u a s.
          let first = reads_passes fast dials u a MmapThreshold threshold p q old (after_threshold t nb a) apart s step in
          let ends : after_threshold t nb a threshold ≡ Stop false = ap (λ (b : Bool). cond b (reads a MappedCount (λ count. Stop (nat_lt count t.mmaps_max))) (Stop false)) test in
          works_ok (subst (λ r. Reaches u ((word_ledger fast dials).ways a.number) (maps_first t nb a) p old r (old ++ told.Dial threshold ∷ []) q) ends first.reaches) first.balances;
      allows = λ d h. apart.reads p q MmapThreshold threshold d step h;
    }

threshold_read : {P : Type 0} (fast : Fast P) (dials : Dialled P) (t u : Tunables) (a : Plain) (nb threshold : ℕ) (p q : P) (old : List Said) → AreApart fast dials → IsSound a → dials.step p (dial_steps.Reads MmapThreshold threshold) q → threshold ≤ nb →
    Passes (word_ledger fast dials) u (maps_first t nb a) (stage a p old) no_chunk (reads a MappedCount (λ count. Stop (nat_lt count t.mmaps_max))) (stage a q (old ++ told.Dial threshold ∷ []))
threshold_read fast dials t u a nb threshold p q old apart s step le =
    let test : nat_le threshold nb ≡ true = grind (arith, nat_tests) in
    let first = reads_passes fast dials u a MmapThreshold threshold p q old (after_threshold t nb a) apart s step in
    let goes : after_threshold t nb a threshold ≡ reads a MappedCount (λ count. Stop (nat_lt count t.mmaps_max)) = ap (λ (b : Bool). cond b (reads a MappedCount (λ count. Stop (nat_lt count t.mmaps_max))) (Stop false)) test in
    record { reaches = subst (λ r. Reaches u ((word_ledger fast dials).ways a.number) (maps_first t nb a) p old r (old ++ told.Dial threshold ∷ []) q) goes first.reaches; balances = first.balances }

pub whether_lost : {P : Type 0} (fast : Fast P) (dials : Dialled P) (t : Tunables) (nb threshold : ℕ) (p q : P) (old : List Said) (r : Result Bool NoMemory) → IsErr r → AreApart fast dials → dials.step p (dial_steps.Reads MmapThreshold threshold) q → threshold ≤ nb →
    AsksWhether fast dials t nb p old r q (old ++ told.Dial threshold ∷ [])
whether_lost fast dials t nb threshold p q old r is apart step le = record {
  works = λ u a s.
      let first = threshold_read fast dials t u a nb threshold p q old apart s step le in
      works_short r is (short_then first.reaches short_here) (loses_from first.balances);
  allows = λ d h. apart.reads p q MmapThreshold threshold d step h;
}

pub whether_large : {P : Type 0} (fast : Fast P) (dials : Dialled P) (t : Tunables) (nb threshold count : ℕ) (p q z : P) (old : List Said) (b : Bool) → AreApart fast dials → dials.step p (dial_steps.Reads MmapThreshold threshold) q → threshold ≤ nb → dials.step q (dial_steps.Reads MappedCount count) z → b ≡ nat_lt count t.mmaps_max →
    AsksWhether fast dials t nb p old (Ok b) z ((old ++ told.Dial threshold ∷ []) ++ told.Dial count ∷ [])
whether_large fast dials t nb threshold count p q z old b apart step le step' is = record {
  works = λ u a s.
      let first = threshold_read fast dials t u a nb threshold p q old apart s step le in
      let second = reads_passes fast dials u a MappedCount count q z (old ++ told.Dial threshold ∷ []) (λ count. Stop (nat_lt count t.mmaps_max)) apart s step' in
      let both = passes_then first second in
      works_ok (subst (λ (b : Bool). Reaches u ((word_ledger fast dials).ways a.number) (maps_first t nb a) p old (Stop b) ((old ++ told.Dial threshold ∷ []) ++ told.Dial count ∷ []) z) (sym is) both.reaches) both.balances;
  allows = λ d h. apart.reads q z MappedCount count d step' (apart.reads p q MmapThreshold threshold d step h);
}

-- ---- the mapping

pub mapping_short : {P K : Type 0} (m : Means P K) (nb : ℕ) (p : P) (space : Space K) (old : List Said) (r : Result (Option Chunk) NoMemory) → IsErr r → AsksMapping m nb p space old r p space old
mapping_short m nb p space old r is = record { works = λ t a cache s. works_short r is short_here (loses_from (balances_here (full m) (stage a (beside_arena p cache space) old) old s)) }

pub mapping_refused : {P K : Type 0} (m : Means P K) (nb : ℕ) (p : P) (space now : Space K) (old : List Said) → MapsWithin m.kernel space (mapping_length nb) None now →
    AsksMapping m nb p space old (Ok None) p now (old ++ told.Asked (asks.Map (map_place space) (mapping_length nb)) Refused ∷ [])
mapping_refused m nb p space now old maps = record {
  works = λ t a cache s.
      let ask : Said = told.Asked (asks.Map (map_place space) (mapping_length nb)) Refused in
      let fit : fits t (Maps (mapping_length nb)) ask ≡ true = eq-eqb (mapping_length nb) (mapping_length nb) refl in
      works_ok (reaches_told {w = (full m).ways a.number} {o = beside_arena p cache space} {z = beside_arena p cache now} ask fit (record { place = refl; maps = maps; others = refl }))
      (record { sound = s; number = refl; windows = refl; placed = λ p. p; cached = λ e. omega arith; others = λ n other e. refl; kept = λ e. omega arith });
}

pub mapping_granted : {P K : Type 0} (m : Means P K) (nb place : ℕ) (p q : P) (space now : Space K) (old : List Said) → AreApart m.fast m.dials → MapsWithin m.kernel space (mapping_length nb) (Some place) now → m.dials.step p (dial_steps.Maps (mapping_length nb)) q →
    AsksMapping m nb p space old (Ok (Some (record { at = map_place space; size = mapping_length nb }))) q now (old ++ told.Asked (asks.Map (map_place space) (mapping_length nb)) Granted ∷ [])
mapping_granted m nb place p q space now old apart maps step = record {
  works = λ t a cache s.
      let len : ℕ = mapping_length nb in
      let ask : Said = told.Asked (asks.Map (map_place space) len) Granted in
      let fit : fits t (Maps len) ask ≡ true = eq-eqb len len refl in
      let here : MapsWithin m.kernel space len (Some (map_place space)) now = subst (λ at. MapsWithin m.kernel space len (Some at) now) maps.fresh.told maps in
      let asked : Reaches t ((full m).ways a.number) (mapping nb a) (beside_arena p cache space) old (Does (Counts len) (Stop (Some (record { at = map_place space; size = len })))) (old ++ ask ∷ []) (beside_arena p cache now) =
      reaches_told {w = (full m).ways a.number} {o = beside_arena p cache space} {z = beside_arena p cache now} ask fit (record { place = refl; maps = here; others = refl }) in
      let counted : Reaches t ((full m).ways a.number) (Does (Counts len) (Stop (Some (record { at = map_place space; size = len })))) (beside_arena p cache now) (old ++ ask ∷ []) (Stop (Some (record { at = map_place space; size = len }))) (old ++ ask ∷ []) (beside_arena q cache now) =
      reaches_done {w = (full m).ways a.number} (record { step = step; others = refl }) in
      works_ok (reaches_then asked counted)
      (record { sound = s; number = refl; windows = refl; placed = λ p. p; cached = λ e. omega arith; others = λ n other e. refl; kept = λ e. omega (arith, apart.stock p q (dial_steps.Maps len) step e) });
}
