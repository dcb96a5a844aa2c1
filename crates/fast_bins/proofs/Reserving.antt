-- Room is made in one bin after another.
use Rattle.std.proofs.Common.{◌≡◌, ℕ, ◌+◌, ◌≤◌, ◌<◌, IsTrue, true, false, List, [], ◌∷◌, set, get_or, length, refl, sym, ap, ◌∙◌, subst, inl, inr, arith}
use Rattle.std.specs.Prelude.{Result, Ok, Err, OnErr}
use Rattle.std.specs.Result.{IsErr}
use Rattle.std.specs.Vec.{with_items}
use Rattle.std.specs.Global.{Vec}
use Rattle.std.proofs.lemmas.Bool.{cases_eq}
use Rattle.std.proofs.lemmas.Bool.Decides.{nat_tests}
use Rattle.std.proofs.lemmas.List.{get_or_default, get_or-set_same, get_or-set_other, get_or-replicate, length-map, with_items_is}
use Rattle.std.proofs.Math.Seq.{map-set_same}
use Rattle.chunk_tags.specs.declared.refusals.NoMemory.{NoMemory}
use Rattle.fast_bins.specs.PlainBins.{FastBin, RoomyBin, no_bin, listed, has_room, ten_bins, Roomier, HaveRoom}

-- the bin at an index has more room
pub record Gains (bins : List RoomyBin) (i : ℕ) (b' : RoomyBin) : Type 0 where
  pub below : i < length bins
  pub bin : b'.bin ≡ (get_or bins i no_bin).bin
  pub more : (get_or bins i no_bin).room ≤ b'.room

pub gains : (bins : List RoomyBin) (i : ℕ) (d b' : RoomyBin) → i < length bins → b'.bin ≡ (get_or bins i d).bin → (get_or bins i d).room ≤ b'.room → Gains bins i b'
gains bins i d b' below bin more =
    let same : get_or bins i d ≡ get_or bins i no_bin = get_or_default bins i d no_bin below in
    record {
      below = below;
      bin = subst (λ (x : RoomyBin). b'.bin ≡ x.bin) same bin;
      more = subst (λ (x : RoomyBin). x.room ≤ b'.room) same more;
    }

more_room : (b b' : RoomyBin) → b'.bin ≡ b.bin → b.room ≤ b'.room → IsTrue (has_room b) → IsTrue (has_room b')
more_room b b' e more h =
    let same : length (listed b'.bin) ≡ length (listed b.bin) = ap (λ x. length (listed x)) e in
    grind (arith, nat_tests)

pub roomier_more : (old bins : List RoomyBin) (i : ℕ) (b' : RoomyBin) → Roomier old bins → Gains bins i b' → Roomier old (set bins i b')
roomier_more old bins i b' so_far g = record {
  bins = map-set_same (λ x. x.bin) bins i b' no_bin g.bin ∙ so_far.bins;
  room = λ k h. elim (cases_eq k i) [
    | inl e ↦ subst (λ n. IsTrue (has_room (get_or (set bins i b') n no_bin))) (sym e)
        (subst (λ x. IsTrue (has_room x)) (sym (get_or-set_same bins i b' no_bin g.below))
        (more_room (get_or bins i no_bin) b' g.bin g.more (subst (λ n. IsTrue (has_room (get_or bins n no_bin))) e (so_far.room k h))))
    | inr ne ↦ subst (λ x. IsTrue (has_room x)) (sym (get_or-set_other bins i k b' no_bin ne)) (so_far.room k h)
  ];
}

pub room_more : (bins : List RoomyBin) (i : ℕ) (b' : RoomyBin) → HaveRoom i bins → i < length bins → IsTrue (has_room b') → HaveRoom (i + 1) (set bins i b')
room_more bins i b' so_far below room k h = elim (cases_eq k i) [
  | inl e ↦ subst (λ n. IsTrue (has_room (get_or (set bins i b') n no_bin))) (sym e)
      (subst (λ x. IsTrue (has_room x)) (sym (get_or-set_same bins i b' no_bin below)) room)
  | inr ne ↦ subst (λ x. IsTrue (has_room x)) (sym (get_or-set_other bins i k b' no_bin ne)) (so_far k (omega arith))
]

-- a bin that has no room now had none before
pub full_at : (old bins : List RoomyBin) (i : ℕ) (d : RoomyBin) → Roomier old bins → i < length bins → i < length old → has_room (get_or bins i d) ≡ false → HaveRoom (length old) old → ⊥
full_at old bins i d so_far below within full had =
    let same : get_or bins i no_bin ≡ get_or bins i d = get_or_default bins i no_bin d below in
    let room : has_room (get_or bins i d) ≡ true = subst (λ x. IsTrue (has_room x)) same (so_far.room i (had i within)) in
    let clash : true ≡ false = sym room ∙ full in
    absurd cc

-- and has none
pub full_now : (n : ℕ) (bins : List RoomyBin) (i : ℕ) (b' : RoomyBin) → i < n → i < length bins → has_room b' ≡ false → HaveRoom n (set bins i b') → ⊥
full_now n bins i b' within below full had =
    let room : has_room b' ≡ true = subst (λ x. IsTrue (has_room x)) (get_or-set_same bins i b' no_bin below) (had i within) in
    let clash : true ≡ false = sym room ∙ full in
    absurd cc

-- what is true in any case is true at a refusal
pub on_err : {A E : Type 0} (P : Type 0) (r : Result A E) → IsErr r → P → OnErr r P
on_err P (Ok x) refused p = absurd cc
on_err P (Err e) refused p = p

-- ---- room in bins that are kept in a list, which may be empty

ten_all : (bins : List RoomyBin) → length bins ≡ 10 → ten_bins bins ≡ bins
ten_all [] long = absurd (omega (arith, long))
ten_all (b ∷ bins) long = refl

ten_kept : (v : Vec RoomyBin) (bins : List RoomyBin) → length v.items ≡ 10 → Roomier v.items bins → ten_bins (with_items v bins).items ≡ bins
ten_kept v bins long next =
    let bin : RoomyBin → FastBin = λ b. b.bin in
    let same : length bins ≡ length v.items = omega (arith, length-map bins bin, length-map v.items bin, ap (λ (bs : List FastBin). length bs) next.bins) in
    ap ten_bins (with_items_is v bins (omega (arith, same, v.ok.0))) ∙ ten_all bins (omega (arith, same, long))

pub roomier_kept : (old : List RoomyBin) (v : Vec RoomyBin) (bins : List RoomyBin) → Roomier old (ten_bins v.items) → length v.items ≡ 10 → Roomier v.items bins → Roomier old (ten_bins (with_items v bins).items)
roomier_kept old v bins so_far long next =
    let now : ten_bins (with_items v bins).items ≡ bins = ten_kept v bins long next in
    let before : Roomier old v.items = subst (Roomier old) (ten_all v.items long) so_far in
    subst (Roomier old) (sym now) (record { bins = next.bins ∙ before.bins; room = λ k had. next.room k (before.room k had) })

-- a bin without room had none before
pub full_kept : (old bins : List RoomyBin) (r : Result (Unit {0}) NoMemory) → Roomier old (ten_bins bins) → length bins ≡ 10 → OnErr r (HaveRoom (length bins) bins → ⊥) → OnErr r (HaveRoom 10 old → ⊥)
full_kept old bins (Ok u) so_far long full = tt
full_kept old bins (Err e) so_far long full =
    let before : Roomier old bins = subst (Roomier old) (ten_all bins long) so_far in
    λ had. full (λ k below. before.room k (had k (omega (arith, below, long))))

pub still_kept : (v : Vec RoomyBin) (bins : List RoomyBin) (r : Result (Unit {0}) NoMemory) → length v.items ≡ 10 → Roomier v.items bins → OnErr r (HaveRoom (length v.items) bins → ⊥) → OnErr r (HaveRoom 10 (ten_bins (with_items v bins).items) → ⊥)
still_kept v bins (Ok u) long next full = tt
still_kept v bins (Err e) long next full =
    λ had. full (λ k below. subst (λ (bs : List RoomyBin). IsTrue (has_room (get_or bs k no_bin))) (ten_kept v bins long next) (had k (omega (arith, below, long))))

-- a bin that has room is in the list
pub kept_below : (bins : List RoomyBin) (k : ℕ) → k < 10 → length (ten_bins bins) ≡ 10 → IsTrue (has_room (get_or (ten_bins bins) k no_bin)) → k < length bins
kept_below [] k below long room =
    let no : IsTrue (has_room no_bin) = subst (λ b. IsTrue (has_room b)) (get_or-replicate 10 k no_bin no_bin below) room in
    absurd cc
kept_below (b ∷ bins) k below long room = omega (arith, below, long)
