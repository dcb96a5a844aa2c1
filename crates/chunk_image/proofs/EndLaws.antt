-- The tile that ends at an address, looked for in the words backwards from there.
use Rattle.std.proofs.Common.{◌≡◌, ℕ, ◌+◌, ◌-◌, ◌*◌, ◌/◌, ◌%◌, ◌<◌, ◌≤◌, Some, sym, ap, ◌∙◌, subst, inl, inr, arith}
use Rattle.std.specs.Prelude.{IsSome}
use Rattle.std.proofs.lemmas.Bool.{cases_order}
use Rattle.chunk_tags.specs.declared.tiles.Tile.{Tile}
use Rattle.chunk_tags.specs.Tiles.{end_of, IsTile, Row}
use Rattle.part_words.specs.Extents.{IsOpen}
use Rattle.part_words.specs.Parts.{Parts, extent_of}
use Rattle.chunk_image.specs.declared.heads.Head.{Head}
use Rattle.chunk_image.specs.Rows.{tile_ending}
use Rattle.chunk_image.specs.Heads.{head_at, tiles_of, IsKept}
use Rattle.chunk_image.proofs.Rows.{apart, row_tile, IsEnding, ending_is}
use Rattle.chunk_image.proofs.ReadLaws.{tile_read, some_of}
use Rattle.chunk_image.proofs.TileLaws.{Begins, begins, begins_with}

-- an address in the tile that ends at another one, whole words behind its beginning
pub record IsNearEnd (heads : Parts Head) (end at : ℕ) : Type 0 where
  pub tile : Tile
  pub begins : Begins heads tile
  pub ending : tile_ending end (tiles_of heads) ≡ Some tile
  pub from : tile.addr ≤ at
  pub below : at < end_of tile
  pub whole : (at - tile.addr) % 16 ≡ 0

-- where the search begins
pub near_last : (heads : Parts Head) (feet : Parts ℕ) (end : ℕ) → IsKept heads feet → Row (tiles_of heads) → IsSome (tile_ending end (tiles_of heads)) → (16 ≤ end) × IsNearEnd heads end (end - 16)
near_last heads feet end kept row some =
    let t = some_of (tile_ending end (tiles_of heads)) some in
    let e : IsEnding end (tiles_of heads) t.0 = ending_is end (tiles_of heads) t.0 row t.1 in
    let tile : IsTile t.0 = row_tile t.0.addr (tiles_of heads) t.0 row e.found in (
      omega (arith, tile.size.0, e.ends),
      record {
        tile = t.0;
        begins = begins heads feet t.0 kept e.found;
        ending = t.1;
        from = omega (arith, tile.size.0, e.ends);
        below = omega (arith, tile.size.0, e.ends);
        whole = omega (arith, tile.size.0, tile.size.1, e.ends);
      },
    )

-- there is a word
pub near_open : (heads : Parts Head) (end at : ℕ) → IsNearEnd heads end at → IsOpen (extent_of heads) at
near_open heads end at n =
    let steps : ℕ = (at - n.tile.addr) / 16 in
    let place : n.tile.addr + 16 * steps ≡ at = omega (arith, n.from, n.whole) in
    subst (IsOpen (extent_of heads)) place (n.begins.room.words steps (omega (arith, place, n.below)))

-- where no tile begins the search goes on a word before
pub near_before : (heads : Parts Head) (end at : ℕ) → IsNearEnd heads end at → (head_at heads at).size ≡ 0 → (16 ≤ at) × IsNearEnd heads end (at - 16)
near_before heads end at n none =
    elim (cases_order n.tile.addr at) [
      | inl here ↦
          let size : (head_at heads n.tile.addr).size ≡ n.tile.size = ap (λ (h : Head). h.size) n.begins.head in
          absurd (omega (arith, none, size, n.begins.some, ap (λ n. (head_at heads n).size) here))
      | inr (inl lt) ↦ (
        omega (arith, lt, n.whole),
        record {
          tile = n.tile;
          begins = n.begins;
          ending = n.ending;
          from = omega (arith, lt, n.whole);
          below = omega (arith, n.below);
          whole = omega (arith, lt, n.whole);
        },
      )
      | inr (inr gt) ↦ absurd (omega (arith, gt, n.from))
    ]

-- where one begins it is the tile
pub near_found : (heads : Parts Head) (feet : Parts ℕ) (end at : ℕ) → IsKept heads feet → Row (tiles_of heads) → IsNearEnd heads end at → 0 < (head_at heads at).size → tile_ending end (tiles_of heads) ≡ Some (tile_read heads at)
near_found heads feet end at kept row n some =
    elim (cases_order n.tile.addr at) [
      | inl here ↦
          let same : tile_read heads n.tile.addr ≡ n.tile = ap (λ (h : Head). record { addr = n.tile.addr; size = h.size; kind = h.kind }) n.begins.head in
          n.ending ∙ ap Some (sym same ∙ ap (tile_read heads) here)
      | inr (inl lt) ↦
          let other : Begins heads (tile_read heads at) = begins_with heads feet at kept some in
          absurd (omega (arith, n.below, apart n.tile.addr at (tiles_of heads) n.tile (tile_read heads at) row n.begins.found other.found lt))
      | inr (inr gt) ↦ absurd (omega (arith, gt, n.from))
    ]
