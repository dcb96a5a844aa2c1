-- The row of tiles, as heads are read and written.
use Rattle.std.proofs.Common.{◌≡◌, ℕ, ◌+◌, ◌-◌, ◌^◌, ◌<◌, ◌≤◌, Bool, true, false, List, [], ◌∷◌, ◌++◌, nat_eq, nat_lt, Option, Some, None, if◌then◌else◌, sym, ap, ◌∙◌, refl, subst, inl, inr, arith, zero, suc}
use Rattle.std.proofs.Common.{zero-add, add-zero}
use Rattle.std.proofs.lemmas.List.{append-nil, append_assoc}
use Rattle.std.proofs.lemmas.Bool.{cases_eq, cases_lt, eq-eqb, ne_eqb, lt-ltb, le-ltb}
use Rattle.chunk_tags.specs.declared.tiles.Tile.{Tile}
use Rattle.chunk_tags.specs.Tiles.{swapped, entered, tile_at}
use Rattle.part_words.specs.Parts.{Parts, no_words, update}
use Rattle.part_words.proofs.Updates.{update_same, update_other, word_at-no_words}
use Rattle.chunk_image.specs.declared.heads.Head.{Head}
use Rattle.chunk_image.specs.Heads.{no_head, head_at, tiles_with, scan, tiles_of}

-- only the heads that are read count
scan_same : (n : ℕ) (f g : ℕ → Head) (a : ℕ) → ((b : ℕ) → a ≤ b → f b ≡ g b) → scan n f a ≡ scan n g a
unfolding scan
scan_same zero f g a same = refl
scan_same (suc n) f g a same =
    rw (same a (omega arith), scan_same n f g (a + 1) (λ b h. same b (omega (arith, h)))) refl

scan_past : (n : ℕ) (f : ℕ → Head) (at : ℕ) (h : Head) (a : ℕ) → at < a → scan n (update f at h) a ≡ scan n f a
scan_past n f at h a past =
    scan_same n (update f at h) f a (λ b from. update_other f at h b (λ e. omega (arith, past, from, e)))

-- a tile, or none, before others
tile_at-pass : (at a : ℕ) (h : Head) (ts : List Tile) → (a ≡ at → ⊥) → tile_at at (tiles_with a h ++ ts) ≡ tile_at at ts
tile_at-pass at a h ts other = go (nat_eq h.size 0) refl
  where
    go : (b : Bool) → nat_eq h.size 0 ≡ b → tile_at at (tiles_with a h ++ ts) ≡ tile_at at ts
    go true e = rw e refl
    go false e = rw (e, ne_eqb a at other) refl

swapped-pass : (at a : ℕ) (h : Head) (news ts : List Tile) → (a ≡ at → ⊥) → swapped at news (tiles_with a h ++ ts) ≡ tiles_with a h ++ swapped at news ts
swapped-pass at a h news ts other = go (nat_eq h.size 0) refl
  where
    go : (b : Bool) → nat_eq h.size 0 ≡ b → swapped at news (tiles_with a h ++ ts) ≡ tiles_with a h ++ swapped at news ts
    go true e = rw e refl
    go false e = rw (e, ne_eqb a at other) refl

entered-pass : (x : Tile) (a : ℕ) (h : Head) (ts : List Tile) → a < x.addr → entered x (tiles_with a h ++ ts) ≡ tiles_with a h ++ entered x ts
entered-pass x a h ts below = go (nat_eq h.size 0) refl
  where
    go : (b : Bool) → nat_eq h.size 0 ≡ b → entered x (tiles_with a h ++ ts) ≡ tiles_with a h ++ entered x ts
    go true e = rw e refl
    go false e = let no_less : nat_lt x.addr a ≡ false = le-ltb x.addr a (omega (arith, below)) in rw (e, no_less) refl

-- the tile with a head
abbrev pub tile_with : ℕ → Head → Option Tile
tile_with at h =
    if nat_eq h.size 0 then None else Some (record { addr = at; size = h.size; kind = h.kind })

-- reading
tile_at-past : (n : ℕ) (f : ℕ → Head) (at a : ℕ) → at < a → tile_at at (scan n f a) ≡ None
unfolding scan
tile_at-past zero f at a past = refl
tile_at-past (suc n) f at a past =
    tile_at-pass at a (f a) (scan n f (a + 1)) (λ e. omega (arith, past, e)) ∙ tile_at-past n f at (a + 1) (omega (arith, past))

tile_at-beyond : (n : ℕ) (f : ℕ → Head) (at a : ℕ) → a + n ≤ at → tile_at at (scan n f a) ≡ None
unfolding scan
tile_at-beyond zero f at a beyond = refl
tile_at-beyond (suc n) f at a beyond =
    tile_at-pass at a (f a) (scan n f (a + 1)) (λ e. omega (arith, beyond, e)) ∙ tile_at-beyond n f at (a + 1) (omega (arith, beyond))

tile_at-here : (n : ℕ) (f : ℕ → Head) (at : ℕ) → tile_at at (scan (suc n) f at) ≡ tile_with at (f at)
unfolding scan
tile_at-here n f at = go (nat_eq (f at).size 0) refl
  where
    go : (b : Bool) → nat_eq (f at).size 0 ≡ b → tile_at at (scan (suc n) f at) ≡ tile_with at (f at)
    go true e = rw e (tile_at-past n f at (at + 1) (omega arith))
    go false e = rw (e, eq-eqb at at refl) refl

tile_at-scan : (n : ℕ) (f : ℕ → Head) (at a : ℕ) → a ≤ at → at < a + n → tile_at at (scan n f a) ≡ tile_with at (f at)
unfolding scan
tile_at-scan zero f at a from below = absurd (omega (arith, from, below))
tile_at-scan (suc n) f at a from below =
    elim (cases_eq a at) [
      | inl e ↦ subst (λ b. tile_at at (scan (suc n) f b) ≡ tile_with at (f at)) (sym e) (tile_at-here n f at)
      | inr other ↦ tile_at-pass at a (f a) (scan n f (a + 1)) other ∙ tile_at-scan n f at (a + 1) (omega (arith, from, other)) (omega (arith, below))
    ]

-- a head is written where a tile begins
swapped-here : (at : ℕ) (k : Head) (news ts : List Tile) → 0 < k.size → swapped at news (tiles_with at k ++ ts) ≡ news ++ ts
swapped-here at k news ts some =
    let e : nat_eq k.size 0 ≡ false = ne_eqb k.size 0 (λ none. omega (arith, some, none)) in
    rw (e, eq-eqb at at refl) refl

changed_here : (n : ℕ) (f : ℕ → Head) (at : ℕ) (h : Head) → 0 < (f at).size → scan (suc n) (update f at h) at ≡ swapped at (tiles_with at h) (scan (suc n) f at)
unfolding scan
changed_here n f at h some =
    ap (λ k. tiles_with at k ++ scan n (update f at h) (at + 1)) (update_same f at h) ∙ (ap (λ ts. tiles_with at h ++ ts) (scan_past n f at h (at + 1) (omega arith)) ∙ sym (swapped-here at (f at) (tiles_with at h) (scan n f (at + 1)) some))

scan_changed : (n : ℕ) (f : ℕ → Head) (at : ℕ) (h : Head) (a : ℕ) → a ≤ at → at < a + n → 0 < (f at).size → scan n (update f at h) a ≡ swapped at (tiles_with at h) (scan n f a)
unfolding scan
scan_changed zero f at h a from below some = absurd (omega (arith, from, below))
scan_changed (suc n) f at h a from below some =
    elim (cases_eq a at) [
      | inl e ↦ subst (λ b. scan (suc n) (update f at h) b ≡ swapped at (tiles_with at h) (scan (suc n) f b)) (sym e) (changed_here n f at h some)
      | inr other ↦ ap (λ k. tiles_with a k ++ scan n (update f at h) (a + 1)) (update_other f at h a other)
          ∙ (ap (λ ts. tiles_with a (f a) ++ ts) (scan_changed n f at h (a + 1) (omega (arith, from, other)) (omega (arith, below)) some)
          ∙ sym (swapped-pass at a (f a) (tiles_with at h) (scan n f (a + 1)) other))
    ]

-- a head is written where no tile begins
entered_above : (x : Tile) (a : ℕ) (h : Head) (ts : List Tile) → x.addr < a → entered x ts ≡ x ∷ ts → entered x (tiles_with a h ++ ts) ≡ x ∷ (tiles_with a h ++ ts)
entered_above x a h ts below rest = go (nat_eq h.size 0) refl
  where
    go : (b : Bool) → nat_eq h.size 0 ≡ b → entered x (tiles_with a h ++ ts) ≡ x ∷ (tiles_with a h ++ ts)
    go true e = rw e rest
    go false e = rw (e, lt-ltb x.addr a below) refl

entered_first : (n : ℕ) (f : ℕ → Head) (x : Tile) (a : ℕ) → x.addr < a → entered x (scan n f a) ≡ x ∷ scan n f a
unfolding scan
entered_first zero f x a below = refl
entered_first (suc n) f x a below =
    entered_above x a (f a) (scan n f (a + 1)) below (entered_first n f x (a + 1) (omega (arith, below)))

entered_here : (n : ℕ) (f : ℕ → Head) (at : ℕ) (h : Head) → (f at).size ≡ 0 → 0 < h.size → scan (suc n) (update f at h) at ≡ entered (record { addr = at; size = h.size; kind = h.kind }) (scan (suc n) f at)
unfolding scan
entered_here n f at h none some =
    let x : Tile = record { addr = at; size = h.size; kind = h.kind } in
    let one : tiles_with at h ≡ x ∷ [] = ap (λ b. if b then [] else x ∷ []) (ne_eqb h.size 0 (λ e. omega (arith, some, e))) in
    let no_one : tiles_with at (f at) ≡ [] = ap (λ b. if b then [] else record { addr = at; size = (f at).size; kind = (f at).kind } ∷ []) (eq-eqb (f at).size 0 none) in
    ap (λ k. tiles_with at k ++ scan n (update f at h) (at + 1)) (update_same f at h) ∙ (ap (λ ts. tiles_with at h ++ ts) (scan_past n f at h (at + 1) (omega arith))
    ∙ (ap (λ ts. ts ++ scan n f (at + 1)) one ∙ (sym (entered_first n f x (at + 1) (omega arith)) ∙ ap (λ ts. entered x (ts ++ scan n f (at + 1))) (sym no_one))))

scan_entered : (n : ℕ) (f : ℕ → Head) (at : ℕ) (h : Head) (a : ℕ) → a ≤ at → at < a + n → (f at).size ≡ 0 → 0 < h.size → scan n (update f at h) a ≡ entered (record { addr = at; size = h.size; kind = h.kind }) (scan n f a)
unfolding scan
scan_entered zero f at h a from below none some = absurd (omega (arith, from, below))
scan_entered (suc n) f at h a from below none some =
    elim (cases_eq a at) [
      | inl e ↦ subst (λ b. scan (suc n) (update f at h) b ≡ entered (record { addr = at; size = h.size; kind = h.kind }) (scan (suc n) f b)) (sym e) (entered_here n f at h none some)
      | inr other ↦ ap (λ k. tiles_with a k ++ scan n (update f at h) (a + 1)) (update_other f at h a other)
          ∙ (ap (λ ts. tiles_with a (f a) ++ ts) (scan_entered n f at h (a + 1) (omega (arith, from, other)) (omega (arith, below)) none some)
          ∙ sym (entered-pass (record { addr = at; size = h.size; kind = h.kind }) a (f a) (scan n f (a + 1)) (omega (arith, from, other))))
    ]

scan_none : (n a : ℕ) → scan n (λ b. no_head) a ≡ []
unfolding scan
scan_none zero a = refl
scan_none (suc n) a = scan_none n (a + 1)

-- The same of the tiles of some words.

pub tiles_of-no_words : (base stride : ℕ) → tiles_of (no_words base stride) ≡ []
unfolding tiles_of
tiles_of-no_words base stride =
    ap (λ f. scan (2 ^ 64) f 0) (word_at-no_words {T = Head} base stride no_head) ∙ scan_none (2 ^ 64) 0

pub tiles_of-same : (ws ws' : Parts Head) → head_at ws' ≡ head_at ws → tiles_of ws' ≡ tiles_of ws
unfolding tiles_of
tiles_of-same ws ws' e = ap (λ f. scan (2 ^ 64) f 0) e

pub tile_at-tiles_of : (ws : Parts Head) (at : ℕ) → at < 2 ^ 64 → tile_at at (tiles_of ws) ≡ tile_with at (head_at ws at)
unfolding tiles_of
tile_at-tiles_of ws at below = tile_at-scan (2 ^ 64) (head_at ws) at 0 (omega arith) (omega (arith, below))

-- each tile begins below 2^64
pub tile_at-below : (ws : Parts Head) (at : ℕ) (t : Tile) → tile_at at (tiles_of ws) ≡ Some t → at < 2 ^ 64
unfolding tiles_of
tile_at-below ws at t found =
    elim (cases_lt at (2 ^ 64)) [
      | inl below ↦ below
      | inr beyond ↦ let none : tile_at at (tiles_of ws) ≡ None = tile_at-beyond (2 ^ 64) (head_at ws) at 0 (omega (arith, beyond)) in
          let clash : None ≡ Some t = sym none ∙ found in
          cc
    ]

pub tiles_of-changed : (ws ws' : Parts Head) (at : ℕ) (h : Head) → head_at ws' ≡ update (head_at ws) at h → at < 2 ^ 64 → 0 < (head_at ws at).size → tiles_of ws' ≡ swapped at (tiles_with at h) (tiles_of ws)
unfolding tiles_of
tiles_of-changed ws ws' at h e below some =
    ap (λ f. scan (2 ^ 64) f 0) e ∙ scan_changed (2 ^ 64) (head_at ws) at h 0 (omega arith) (omega (arith, below)) some

pub tiles_of-entered : (ws ws' : Parts Head) (at : ℕ) (h : Head) → head_at ws' ≡ update (head_at ws) at h → at < 2 ^ 64 → (head_at ws at).size ≡ 0 → 0 < h.size → tiles_of ws' ≡ entered (record { addr = at; size = h.size; kind = h.kind }) (tiles_of ws)
unfolding tiles_of
tiles_of-entered ws ws' at h e below none some =
    ap (λ f. scan (2 ^ 64) f 0) e ∙ scan_entered (2 ^ 64) (head_at ws) at h 0 (omega arith) (omega (arith, below)) none some

-- The tiles that begin below an address.
unfoldable pub tiles_below : Parts Head → ℕ → List Tile
tiles_below ws n = scan n (head_at ws) 0

scan_gap : (n : ℕ) (f : ℕ → Head) (a : ℕ) → ((b : ℕ) → a ≤ b → b < a + n → (f b).size ≡ 0) → scan n f a ≡ []
unfolding scan
scan_gap zero f a none = refl
scan_gap (suc n) f a none =
    ap (λ e. (if e then [] else record { addr = a; size = (f a).size; kind = (f a).kind } ∷ []) ++ scan n f (a + 1)) (eq-eqb (f a).size 0 (none a (omega arith) (omega arith))) ∙ scan_gap n f (a + 1) (λ b from below. none b (omega (arith, from)) (omega (arith, below)))

scan_split : (n m : ℕ) (f : ℕ → Head) (a : ℕ) → scan (n + m) f a ≡ scan n f a ++ scan m f (a + n)
unfolding scan
scan_split zero m f a = rw (zero-add m, add-zero a) refl
scan_split (suc n) m f a =
    let e : suc n + m ≡ suc (n + m) = omega arith in
    let g : a + 1 + n ≡ a + suc n = omega arith in
    rw e (ap (λ ts. tiles_with a (f a) ++ ts) (scan_split n m f (a + 1) ∙ ap (λ c. scan n f (a + 1) ++ scan m f c) g) ∙ sym (append_assoc (tiles_with a (f a)) (scan n f (a + 1)) (scan m f (a + suc n))))

pub tiles_below-none : (ws : Parts Head) → tiles_below ws 0 ≡ []
unfolding tiles_below scan
tiles_below-none ws = refl

-- no tile begins in between
pub tiles_below-gap : (ws : Parts Head) (a b : ℕ) → a ≤ b → ((c : ℕ) → a ≤ c → c < b → (head_at ws c).size ≡ 0) → tiles_below ws b ≡ tiles_below ws a
unfolding tiles_below
tiles_below-gap ws a b le none =
    let e : a + (b - a) ≡ b = omega (arith, le) in
    ap (λ n. scan n (head_at ws) 0) (sym e) ∙ (scan_split a (b - a) (head_at ws) 0 ∙ (ap (λ ts. scan a (head_at ws) 0 ++ ts) (scan_gap (b - a) (head_at ws) (0 + a) (λ c from below. none c (omega (arith, from)) (omega (arith, below, le)))) ∙ append-nil (scan a (head_at ws) 0)))

-- one address more
pub tiles_below-more : (ws : Parts Head) (a : ℕ) → tiles_below ws (a + 1) ≡ tiles_below ws a ++ tiles_with a (head_at ws a)
unfolding tiles_below scan
tiles_below-more ws a =
    let e : 0 + a ≡ a = omega arith in
    scan_split a 1 (head_at ws) 0 ∙ (ap (λ b. scan a (head_at ws) 0 ++ (tiles_with b (head_at ws b) ++ [])) e ∙ ap (λ ts. scan a (head_at ws) 0 ++ ts) (append-nil (tiles_with a (head_at ws a))))

pub tiles_below-end : (ws : Parts Head) → tiles_below ws (2 ^ 64) ≡ tiles_of ws
unfolding tiles_below tiles_of
tiles_below-end ws = refl
