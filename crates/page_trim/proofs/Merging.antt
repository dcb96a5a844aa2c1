-- Chunks are merged one after another: each is a used one still when its turn comes.
use Rattle.std.proofs.Common.{◌≡◌, ℕ, ◌+◌, ◌<◌, ◌≤◌, suc, cond, List, [], ◌∷◌, ◌++◌, IsTrue, refl, sym, ap, get_or, drop-cons, ◌∙◌, subst, arith}
use Rattle.std.specs.Prelude.{fold, map, drop, length}
use Rattle.std.proofs.lemmas.List.Sums.{sum_by-append}
use Rattle.std.specs.Global.{Vec}
use Rattle.std.proofs.lemmas.List.{drop_all, get_or-map, length-map}
use Rattle.std.proofs.lemmas.Grind.{fold-append}
use Rattle.chunk_tags.specs.BinOrder.{once, same_chunk, times_in, fast_chunk}
use Rattle.chunk_tags.specs.declared.tiles.Chunk.{Chunk}
use Rattle.arena_rules.specs.PlainArena.{Plain, IsSound, times_used, is_own, beside}
use Rattle.arena_rules.specs.Release.{Merging, merged}
use Rattle.arena_rules.proofs.Bins.{once_self}
use Rattle.arena_rules.proofs.Beside.{beside_merged}
use Rattle.arena_rules.proofs.ChunkMoves.{own_from}
use Rattle.arena_rules.proofs.Merging.{merged_moved}
use Rattle.consolidate_trim.specs.declared.merging.Merged.{Merged}
use Rattle.consolidate_trim.specs.declared.merging.Merged.TheVariants as ends
use Rattle.consolidate_trim.specs.Merges.{merging_of}
use Rattle.page_trim.specs.Trimming.{HasUsed, chunks_listed, merged_into}

times_both : (e : Chunk) (cs ds : List Chunk) → times_in e (cs ++ ds) ≡ times_in e cs + times_in e ds
times_both e cs ds = sum_by-append (λ c. cond (same_chunk e c) 1 0) cs ds

times_first : (e c : Chunk) (cs : List Chunk) → times_in e (c ∷ cs) ≡ once e c + times_in e cs
times_first e c cs = omega (arith, times_both e (c ∷ []) cs)

-- the first is a used one
pub first_own : (a : Plain) (c : Chunk) (cs : List Chunk) → HasUsed (c ∷ cs) a → IsTrue (is_own a c)
first_own a c cs h = own_from a c (omega (arith, h.used c, times_first c c cs, once_self c))

-- when it is merged, the others are used ones
pub merged_first : (a : Plain) (c : Chunk) (cs : List Chunk) → HasUsed (c ∷ cs) a → HasUsed cs (merged_into a c)
merged_first a c cs h =
    let moved = merged_moved a c h.sound (first_own a c cs h) in
    record { sound = moved.sound; used = λ e. omega (arith, h.used e, times_first e c cs, moved.used e) }

-- those in front of others are used ones, and these are when those are merged
pub used_front : (a : Plain) (cs ds : List Chunk) → HasUsed (cs ++ ds) a → HasUsed cs a
used_front a cs ds h = record { sound = h.sound; used = λ e. omega (arith, h.used e, times_both e cs ds) }

pub merged_front : (a : Plain) (cs ds : List Chunk) → HasUsed (cs ++ ds) a → HasUsed ds (fold merged_into a cs)
merged_front a [] ds h = h
merged_front a (c ∷ cs) ds h = merged_front (merged_into a c) cs ds (merged_first a c (cs ++ ds) h)

-- all of an arena but its tiles and bins stays
pub beside_all : (a : Plain) (cs : List Chunk) → beside (fold merged_into a cs) ≡ beside a
beside_all a [] = refl
beside_all a (c ∷ cs) = beside_all (merged_into a c) cs ∙ beside_merged a c

-- what a body's merge left
pub merge_is : (m : Merged) (a b : Plain) (c : Chunk) → merging_of m b ≡ merged a c → b ≡ merged_into a c
merge_is (ends.Unsorted size) a b c e = ap (λ (x : Merging). x.arena) e
merge_is (ends.Top size) a b c e = ap (λ (x : Merging). x.arena) e

-- So far chunks of some were merged, and these are left.
pub record IsMerging (start : Plain) (all : List Chunk) (now : Plain) (left : List Chunk) : Type 0 where
  pub ends : fold merged_into now left ≡ fold merged_into start all
  pub used : HasUsed left now

pub merging_begins : (a : Plain) (cs : List Chunk) → HasUsed cs a → IsMerging a cs a cs
merging_begins a cs h = record { ends = refl; used = h }

pub merging_further : (start now next : Plain) (all left : List Chunk) (c : Chunk) → IsMerging start all now (c ∷ left) → next ≡ merged_into now c → IsMerging start all next left
merging_further start now next all left c m e =
    subst (λ x. IsMerging start all x left) (sym e) (record { ends = m.ends; used = merged_first now c left m.used })

pub merging_many : (start now next : Plain) (all left cs : List Chunk) → IsMerging start all now (cs ++ left) → next ≡ fold merged_into now cs → IsMerging start all next left
merging_many start now next all left cs m e =
    subst (λ x. IsMerging start all x left) (sym e) (record {
      ends = sym (fold-append merged_into now cs left) ∙ m.ends;
      used = merged_front now cs left m.used;
    })

-- the chunks of the bin at an index, and behind them those of the later ones
pub bins_left : (lists : List (List ℕ)) (bin : ℕ) → bin < length lists → chunks_listed bin (drop bin lists) ≡ map (fast_chunk bin) (get_or lists bin []) ++ chunks_listed (bin + 1) (drop (bin + 1) lists)
bins_left lists bin below =
    let next : suc bin ≡ bin + 1 = omega arith in
    ap (chunks_listed bin) (drop-cons lists bin [] below) ∙ ap (λ n. map (fast_chunk bin) (get_or lists bin []) ++ chunks_listed (bin + 1) (drop n lists)) next

-- a chunk of a list, and those behind it
pub list_left : (bin at i : ℕ) (list : List ℕ) → i < length list → at ≡ get_or list i at → map (fast_chunk bin) (drop i list) ≡ fast_chunk bin at ∷ map (fast_chunk bin) (drop (i + 1) list)
list_left bin at i list below is =
    let next : suc i ≡ i + 1 = omega arith in
    ap (map (fast_chunk bin)) (drop-cons list i at below)
    ∙ (ap (λ x. fast_chunk bin x ∷ map (fast_chunk bin) (drop (suc i) list)) (sym is)
    ∙ ap (λ n. fast_chunk bin at ∷ map (fast_chunk bin) (drop n list)) next)

-- what the loops need of what is left
pub left_own : (start now : Plain) (all left rest : List Chunk) (c : Chunk) → IsMerging start all now left → left ≡ c ∷ rest → IsTrue (is_own now c)
left_own start now all left rest c m e = first_own now c rest (subst (λ cs. HasUsed cs now) e m.used)

pub left_merged : (start now next : Plain) (all left rest : List Chunk) (c : Chunk) → IsMerging start all now left → left ≡ c ∷ rest → next ≡ merged_into now c → IsMerging start all next rest
left_merged start now next all left rest c m e is = merging_further start now next all rest c (subst (IsMerging start all now) e m) is

pub left_used : (start now : Plain) (all left cs rest : List Chunk) → IsMerging start all now left → left ≡ cs ++ rest → HasUsed cs now
left_used start now all left cs rest m e = used_front now cs rest (subst (λ ds. HasUsed ds now) e m.used)

pub left_many : (start now next : Plain) (all left cs rest : List Chunk) → IsMerging start all now left → left ≡ cs ++ rest → next ≡ fold merged_into now cs → IsMerging start all next rest
left_many start now next all left cs rest m e is = merging_many start now next all rest cs (subst (IsMerging start all now) e m) is

-- the same of lists in vectors
pub bin_left : (fast : List (Vec ℕ)) (bin : ℕ) (v : Vec ℕ) (list : List ℕ) → bin < length fast → v ≡ get_or fast bin v → list ≡ v.items →
    chunks_listed bin (drop bin (map (λ l. l.items) fast)) ≡ map (fast_chunk bin) list ++ chunks_listed (bin + 1) (drop (bin + 1) (map (λ l. l.items) fast))
bin_left fast bin v list below is items =
    let lists : List (List ℕ) = map (λ (l : Vec ℕ). l.items) fast in
    let long : bin < length lists = omega (arith, below, length-map fast (λ (l : Vec ℕ). l.items)) in
    let here : get_or lists bin [] ≡ list = get_or-map (λ (l : Vec ℕ). l.items) fast bin v [] below ∙ (ap (λ (l : Vec ℕ). l.items) (sym is) ∙ sym items) in
    bins_left lists bin long ∙ ap (λ l. map (fast_chunk bin) l ++ chunks_listed (bin + 1) (drop (bin + 1) lists)) here

none_behind : (n : ℕ) (lists : List (List ℕ)) → length lists ≤ n → chunks_listed n (drop n lists) ≡ []
none_behind n lists le = ap (chunks_listed n) (drop_all n lists le)

-- behind the last bin all are merged
pub merging_all : (start now : Plain) (all : List Chunk) (lists : List (List ℕ)) (n : ℕ) → length lists ≤ n → IsMerging start all now (chunks_listed n (drop n lists)) → (now ≡ fold merged_into start all) × IsSound now
merging_all start now all lists n le m =
    let none : IsMerging start all now [] = subst (IsMerging start all now) (none_behind n lists le) m in
    (none.ends, none.used.sound)
