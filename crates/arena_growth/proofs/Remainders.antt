-- The last remainder is an address beside all else of an arena.
use Rattle.std.proofs.Common.{ℕ, ◌+◌, ◌-◌, ◌<◌, ◌≤◌, Bool, true, false, cond, List, Option, Some}
use Rattle.std.specs.Prelude.{nat_lt}
use Rattle.chunk_tags.specs.BinOrder.{once}
use Rattle.chunk_tags.specs.declared.tiles.Chunk.{Chunk}
use Rattle.chunk_tags.specs.Sizes.{IsChunkSize, is_small_size}
use Rattle.arena_rules.specs.declared.said.Said.{Said}
use Rattle.arena_rules.specs.PlainArena.{Plain, IsSound, times_listed}
use Rattle.arena_rules.proofs.MainPlaces.{placed_beside}
use Rattle.arena_rules.specs.Search.{carved, carved_chunk, with_remainder}
use Rattle.arena_rules.proofs.Beside.{beside_carved}
use Rattle.arena_rules.proofs.Carving.{carved_moved}
use Rattle.consolidate_trim.specs.Holds.{no_chunk}
use Rattle.arena_growth.specs.Ledgers.{Ledger, Stage, stage, Balances}
use Rattle.arena_growth.proofs.Balance.{balances_moved}

abbrev with_last : Plain → Option ℕ → Plain
with_last a o = record a { last = o }

-- accounts don't see it
last_balances : {O : Type 0} {l : Ledger O} {x : Stage O} {a : Plain} {o : O} {said : List Said} {came : Chunk → ℕ} (last : Option ℕ) → Balances l x no_chunk came (stage a o said) → Balances l x no_chunk came (stage (with_last a last) o said)
last_balances {a = a} last m = record {
  sound = record { row = m.sound.row; one_top = m.sound.one_top; listed = record { once = m.sound.listed.once; width = m.sound.listed.width; bins = m.sound.listed.bins } };
  number = m.number;
  windows = m.windows;
  placed = λ p main. placed_beside a a.bins last a.most (m.placed p main);
  cached = m.cached;
  others = m.others;
  kept = m.kept;
}

-- a chunk is carved, and its rest may be the last remainder
pub carve_balances : {O : Type 0} (l : Ledger O) (x : Stage O) (c : Chunk) (nb : ℕ) (said : List Said) → IsSound x.arena → 0 < times_listed c x.arena → IsChunkSize nb → nb ≤ c.size →
    Balances l x no_chunk (λ e. once e (carved_chunk c nb)) (stage (with_remainder (carved x.arena c nb) c nb) x.outside said)
carve_balances l x c nb said s some chunk le =
    let b : Plain = carved x.arena c nb in
    let came : Chunk → ℕ = λ e. once e (carved_chunk c nb) in
    let plain : Balances l x no_chunk came (stage b x.outside said) = balances_moved l x b came said (carved_moved x.arena c nb s some chunk le) (beside_carved x.arena c nb) in
    let inner : (q : Bool) → Balances l x no_chunk came (stage (cond q (with_last b (Some (c.at + nb))) b) x.outside said) = elim [
      | true ↦ last_balances (Some (c.at + nb)) plain
      | false ↦ plain
    ] in
    let outer : (p : Bool) → Balances l x no_chunk came (stage (cond p b (cond (is_small_size nb) (with_last b (Some (c.at + nb))) b)) x.outside said) = elim [
      | true ↦ plain
      | false ↦ inner (is_small_size nb)
    ] in
    outer (nat_lt (c.size - nb) 32)
