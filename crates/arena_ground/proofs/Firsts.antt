-- The first chunks of each size after a move, and unsorted chunks by their addresses.
use Rattle.std.proofs.Common.{◌≡◌, ℕ, ◌<◌, ◌≤◌, Bool, true, false, cond, List, [], ◌∷◌, get_or, set, Option, refl, sym, ap, ◌∙◌, subst, arith}
use Rattle.std.proofs.lemmas.List.Sums.{sum_by-cons}
use Rattle.chunk_tags.specs.BinOrder.{once, same_chunk, times_in}
use Rattle.chunk_tags.specs.declared.tiles.Chunk.{Chunk}
use Rattle.chunk_tags.specs.declared.tiles.Tile.{Tile}
use Rattle.part_words.specs.Extents.{Extent, extended, IsWider}
use Rattle.part_words.proofs.Opening.{Covers-extended, Covers-more, Covers-same}
use Rattle.ordinary_bins.specs.Lists.{Linked, empty_lists, list_at, times_in as times_at}
use Rattle.ordinary_bins.proofs.ListLaws.{in_here, in_more}
use Rattle.chunk_image.specs.Rows.{TileRow}
use Rattle.large_bins.specs.FirstChunks.{AreFalling, AreFirsts}
use Rattle.large_bins.specs.SeenChunks.{size_at}
use Rattle.large_bins.proofs.FirstBins.{firsts_below, no_firsts}
use Rattle.arena_rules.specs.PlainArena.{Plain}
use Rattle.arena_rules.proofs.Bins.{same_chunk_is}
use Rattle.heap_top.specs.declared.regions.Regions.{Regions}
use Rattle.arena_ground.specs.Grounds.{tile_chunk, chunks_at, bins_at, HaveFirsts, IsOrdered}
use Rattle.arena_ground.proofs.Bridges.{bin_is}
use Rattle.arena_ground.proofs.Keeping.{IsDone, IsSoundGround}

-- a chunk of a list of chunks, by its address
record StandsAs (ts : List Tile) (c : Chunk) (xs : List ℕ) : Type 0 where
  pub stands : 1 ≤ times_at c.at xs
  pub size : size_at ts c.at ≡ c.size

stands_as : (ts : List Tile) (c : Chunk) (xs : List ℕ) → 1 ≤ times_in c (chunks_at ts xs) → StandsAs ts c xs
stands_as ts c [] some = absurd (omega (arith, some))
stands_as ts c (x ∷ xs) some =
    let cases : (b : Bool) → same_chunk c (tile_chunk ts x) ≡ b → StandsAs ts c (x ∷ xs) = elim [
      | true ↦ λ is.
          let same = same_chunk_is c (tile_chunk ts x) is in
          let here : c.at ≡ x = ap (λ (d : Chunk). d.at) same in
          record { stands = omega (arith, in_here c.at x xs here); size = ap (size_at ts) here ∙ sym (ap (λ (d : Chunk). d.size) same) }
      | false ↦ λ is.
          let later = stands_as ts c xs (omega (arith, some, sum_by-cons (once c) (tile_chunk ts x) (chunks_at ts xs), ap {B = ℕ} (λ (b : Bool). cond b 1 0) is)) in
          record { stands = omega (arith, later.stands, in_more c.at x xs); size = later.size }
    ] in
    cases (same_chunk c (tile_chunk ts x)) refl

-- after a move, with the first chunks of its bins
pub still : {r : Regions} {w : TileRow} {l : Linked} {last : Option ℕ} {new : Plain} {bins : List (List Chunk)} {firsts : Linked} → IsDone r w l last new → new.bins ≡ bins → HaveFirsts bins l.extent firsts → IsOrdered r w l last firsts
still {l = l} {firsts = firsts} d same g = record { ground = d.kept; firsts = subst (λ b. HaveFirsts b l.extent firsts) (sym (ap (λ (x : Plain). x.bins) d.is ∙ same)) g }

-- with other link words
wider_again : (d e f : Extent) → IsWider d e → IsWider e f → IsWider d f
wider_again d e f p q = record { base = q.base ∙ p.base; width = q.width ∙ p.width; words = λ part. omega (arith, p.words part, q.words part) }

pub covers_all : (w : TileRow) (l firsts : Linked) → IsWider w.extent l.extent → IsWider l.extent firsts.extent → IsWider w.extent firsts.extent
covers_all w l firsts p q = wider_again w.extent l.extent firsts.extent p q

pub same_words : {bins : List (List Chunk)} (e new : Extent) (firsts : Linked) → new ≡ e → HaveFirsts bins e firsts → HaveFirsts bins new firsts
same_words {bins} e new firsts is g = subst (λ x. HaveFirsts bins x firsts) (sym is) g

pub opened_first : {bins : List (List Chunk)} (e : Extent) (firsts more : Linked) (at len : ℕ) → HaveFirsts bins e firsts → more.lists ≡ firsts.lists → more.extent ≡ extended firsts.extent at len → HaveFirsts bins e more
opened_first {bins} e firsts more at len g lists words = record {
  each = subst (AreFirsts bins) (sym lists) g.each;
  wider = subst (IsWider e) (sym words) (Covers-more e firsts.extent at len g.wider);
}

pub opened_both : {bins : List (List Chunk)} (e new : Extent) (firsts more : Linked) (at len : ℕ) → HaveFirsts bins e firsts → more.lists ≡ firsts.lists → more.extent ≡ extended firsts.extent at len → new ≡ extended e at len → HaveFirsts bins new more
opened_both {bins} e new firsts more at len g lists words links = record {
  each = subst (AreFirsts bins) (sym lists) g.each;
  wider = subst (IsWider new) (sym words) (subst (λ x. IsWider x (extended firsts.extent at len)) (sym links) (Covers-extended e firsts.extent at len g.wider));
}

-- where there are no chunks
pub none_first : (ts : List Tile) (l firsts : Linked) → l.lists ≡ empty_lists → firsts.lists ≡ empty_lists → firsts.extent ≡ l.extent → HaveFirsts (bins_at ts l.lists) l.extent firsts
none_first ts l firsts none none2 same = record {
  each = subst (λ ls. AreFirsts (bins_at ts ls) firsts.lists) (sym none) (subst (AreFirsts (bins_at ts empty_lists)) (sym none2) (no_firsts (size_at ts)));
  wider = subst (IsWider l.extent) (sym same) (Covers-same l.extent);
}

-- a bin that isn't large changes
pub below_large : {bins : List (List Chunk)} {e : Extent} {firsts : Linked} (i : ℕ) (cs : List Chunk) → i < 64 → HaveFirsts bins e firsts → HaveFirsts (set bins i cs) e firsts
below_large i cs low g = record { each = firsts_below i cs low g.each; wider = g.wider }

-- each large bin of a sound ground is in order
pub falling_bins : (r : Regions) (w : TileRow) (l : Linked) (last : Option ℕ) → IsSoundGround r w l last → AreFalling (bins_at w.tiles l.lists)
falling_bins r w l last g = λ bin large. (g.sound.listed.bins bin).falls large

-- an unsorted chunk, by its address
pub unsorted_stands : (ts : List Tile) (c : Chunk) (lists : List (List ℕ)) → 0 < times_in c (get_or (bins_at ts lists) 1 []) → 1 ≤ times_at c.at (list_at 1 lists)
unsorted_stands ts c lists some = (stands_as ts c (list_at 1 lists) (omega (arith, some, ap (times_in c) (bin_is ts lists 1)))).stands
