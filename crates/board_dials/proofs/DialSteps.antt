-- Each step on a dial keeps the dials' part of the rule.
use Rattle.std.proofs.Common.{◌≡◌, ℕ, zero, suc, ◌+◌, ◌-◌, ◌*◌, ◌<◌, ◌≤◌, ◌⊎◌, ⊎_elim, inl, inr, List, [], ◌∷◌, length, drop, max, get_or, set, sym, refl, ap, ◌∙◌, arith, subst}
use Rattle.std.proofs.Math.Nat.{le-max_left, le-max_right, max-le}
use Rattle.std.proofs.lemmas.List.{set-get_or}
use mathlib.Core.Logic.{dite}
use native.Mathlib.Decide.{dec_le}
use mathlib.Core.Option.{some}
use lib.ListN.{get_elem?}
use Rattle.chunk_tags.specs.declared.tunables.Tunables.{Tunables}
use Rattle.address_space.specs.Spaces.{map_length}
use Rattle.board_types.specs.Trays.{Tray}
use Rattle.board_types.specs.Dials.{Dials, Counting, IsRead, AreRead, AreRaises, IsIn, IsSetTo, in_a_hand, as_mapped, as_mapped_bytes}
use Rattle.board_types.specs.Plays.{one_counted}
use Rattle.board_types.proofs.Weigh.{weigh_at}
use Rattle.board_trays.proofs.Newcomers.{at_most_more}
use Rattle.board_dials.specs.DialPlays.{DialWords, words_in, dials_in, one_uncounted, bytes_counted, bytes_uncounted, bytes_shortened, length_given, length_listed, most_mapped_raised, most_bytes_raised, threshold_raised, threshold_set, dial_read}
use Rattle.board_dials.proofs.Later.{due_less}
use Rattle.board_dials.proofs.DialChanges.{TallyStep, dials_step}

-- the six words
pub six : (ws : List ℕ) → length ws ≡ 6 → ws ≡ words_in (dials_in ws)
six [] l = absurd (omega arith)
six (a ∷ []) l = absurd (omega arith)
six (a ∷ b ∷ []) l = absurd (omega arith)
six (a ∷ b ∷ c ∷ []) l = absurd (omega arith)
six (a ∷ b ∷ c ∷ d ∷ []) l = absurd (omega arith)
six (a ∷ b ∷ c ∷ d ∷ e ∷ []) l = absurd (omega arith)
six (a ∷ b ∷ c ∷ d ∷ e ∷ f ∷ []) l = refl
six (a ∷ b ∷ c ∷ d ∷ e ∷ f ∷ g ∷ ws) l = absurd (omega arith)

-- ---- a count with its maximum

-- the count doesn't rise
less_tally : (n m most : ℕ) (due : List ℕ) (all more : ℕ) → m ≤ n → all ≤ more → TallyStep n most m most due due all more
less_tally n m most due all more less grows = record {
  covers = inr (less, omega arith, λ h. inr (due_less m n due less h));
  raised = inl (omega arith);
  listed = omega arith;
  grows = grows;
  dues = λ k l le s old. at_most_more k l due (omega arith) old;
}

same_tally : (n most : ℕ) (due : List ℕ) (all : ℕ) → TallyStep n most n most due due all all
same_tally n most due all = less_tally n n most due all all (omega arith) (omega arith)

-- the count is due, and rises no more than what the pass lists
due_tally : (n m most : ℕ) (due : List ℕ) (all more : ℕ) → m + all ≤ n + more → all ≤ more → TallyStep n most m most due (m ∷ due) all more
due_tally n m most due all more listed grows = record {
  covers = inl (inl (omega arith));
  raised = inl (omega arith);
  listed = listed;
  grows = grows;
  dues = λ k l le s old. (omega arith, at_most_more k l due (omega arith) old);
}

-- the maximum is raised to what is due
raised_first : (n most k : ℕ) (rest : List ℕ) (all : ℕ) → TallyStep n most n (max most k) (k ∷ rest) rest all all
raised_first n most k rest all = let a = le-max_left most k in let b = le-max_right most k in record {
  covers = inr (omega arith, a, λ h. ⊎_elim (λ le. inl (omega arith)) (λ d. inr d) h);
  raised = dite (dec_le k most) (λ le. inl (max-le (omega arith) le)) (λ more. inr (inl (max-le (omega arith) (omega arith))));
  listed = omega arith;
  grows = omega arith;
  dues = λ i l le s old. at_most_more i l rest (omega arith) old.1;
}

raised_tally : (n most k : ℕ) (due rest : List ℕ) (all : ℕ) → due ≡ k ∷ rest → TallyStep n most n (max most k) due (drop 1 due) all all
raised_tally n most k due rest all e = subst (λ (xs : List ℕ). TallyStep n most n (max most k) xs (drop 1 xs) all all) (sym e) (raised_first n most k rest all)

max_either : (n k : ℕ) → (max n k ≡ n) ⊎ (max n k ≡ k)
max_either n k = let a = le-max_left n k in let b = le-max_right n k in dite (dec_le k n)
    (λ le. let low : max n k ≤ n = max-le (omega arith) le in inl (omega arith))
    (λ more. let low : max n k ≤ k = max-le (omega arith) (omega arith) in inr (omega arith))

-- ---- steps

module _ (t : Tunables) (trays : List Tray) (words : List ℕ) (views : List Counting) (p : ℕ) (v : Counting) (law : Dials t trays words views) (view : get_elem? views p ≡ some v) (long : length words ≡ 6) where
  abbrev d : DialWords
  d = dials_in words

  law6 : Dials t trays (words_in d) views
  law6 = subst (λ (ws : List ℕ). Dials t trays ws views) (six words long) law

  back : (i n : ℕ) (e : DialWords) (w : Counting) → set (words_in d) i n ≡ words_in e → Dials t trays (words_in e) (set views p w) → Dials t trays (set words i n) (set views p w)
  back i n e w is h = subst (λ (ws : List ℕ). Dials t trays ws (set views p w)) (sym (ap (λ (ws : List ℕ). set ws i n) (six words long) ∙ is)) h

  -- what a pass has is counted
  pub mapped_least : v.0.mapped ≤ d.mapped
  mapped_least = let own = weigh_at (λ (u : Counting). u.0.mapped + in_a_hand as_mapped u.1) views p v view in let o = law.mapped in omega arith

  pub bytes_least : v.0.bytes ≤ d.bytes
  bytes_least = let own = weigh_at (λ (u : Counting). u.0.bytes + in_a_hand as_mapped_bytes u.1) views p v view in let o = law.bytes in omega arith

  -- counts change
  abbrev recounted : ℕ → ℕ → ℕ → ℕ → ℕ → List ℕ → List ℕ → Counting
  recounted m b am ab g dm db = (record v.0 { mapped = m; bytes = b; all_mapped = am; all_bytes = ab; given = g; due_mapped = dm; due_bytes = db }, v.1)

  tallied : (m b am ab g : ℕ) (dm db : List ℕ) (x y pm pb : ℕ) → x + v.0.mapped ≡ d.mapped + m → y + v.0.bytes ≡ d.bytes + b
      → TallyStep d.mapped d.most_mapped x pm v.0.due_mapped dm v.0.all_mapped am → TallyStep d.bytes d.most_bytes y pb v.0.due_bytes db v.0.all_bytes ab
      → y + v.0.given ≤ d.bytes + g → g ≤ v.0.windows * map_length → am ≤ v.0.windows * (map_length + 1)
      → Dials t trays (words_in record d { mapped = x; bytes = y; most_mapped = pm; most_bytes = pb }) (set views p (recounted m b am ab g dm db))
  tallied m b am ab g dm db x y pm pb mapped bytes count lengths given room_given room_mapped = dials_step t trays views p d (record d { mapped = x; bytes = y; most_mapped = pm; most_bytes = pb }) v (recounted m b am ab g dm db) law6 view refl record {
    mapped = mapped;
    bytes = bytes;
    count = count;
    lengths = lengths;
    given = given;
    windows = refl;
    room = (room_given, room_mapped);
    mmap = inl refl;
    trim = inl refl;
    sets = λ i n h. h;
    more = λ n h. h;
    raises = law.raises p v view;
    read = law.read p v view;
  }

  same_mapped : TallyStep d.mapped d.most_mapped d.mapped d.most_mapped v.0.due_mapped v.0.due_mapped v.0.all_mapped v.0.all_mapped
  same_mapped = same_tally d.mapped d.most_mapped v.0.due_mapped v.0.all_mapped

  same_bytes : TallyStep d.bytes d.most_bytes d.bytes d.most_bytes v.0.due_bytes v.0.due_bytes v.0.all_bytes v.0.all_bytes
  same_bytes = same_tally d.bytes d.most_bytes v.0.due_bytes v.0.all_bytes

  -- a step on the count, or on its maximum
  mapped_step : (m am : ℕ) (dm : List ℕ) (x pm : ℕ) → x + v.0.mapped ≡ d.mapped + m → TallyStep d.mapped d.most_mapped x pm v.0.due_mapped dm v.0.all_mapped am → am ≤ v.0.windows * (map_length + 1)
      → Dials t trays (words_in record d { mapped = x; most_mapped = pm }) (set views p (record v.0 { mapped = m; all_mapped = am; due_mapped = dm }, v.1))
  mapped_step m am dm x pm sum count room = tallied m v.0.bytes am v.0.all_bytes v.0.given dm v.0.due_bytes x d.bytes pm d.most_bytes sum refl count same_bytes (omega arith) (law.windows p v view) room

  -- a step on the bytes, or on their maximum
  bytes_step : (b ab g : ℕ) (db : List ℕ) (y pb : ℕ) → y + v.0.bytes ≡ d.bytes + b → TallyStep d.bytes d.most_bytes y pb v.0.due_bytes db v.0.all_bytes ab → y + v.0.given ≤ d.bytes + g → g ≤ v.0.windows * map_length
      → Dials t trays (words_in record d { bytes = y; most_bytes = pb }) (set views p (record v.0 { bytes = b; all_bytes = ab; given = g; due_bytes = db }, v.1))
  bytes_step b ab g db y pb sum lengths given room = tallied v.0.mapped b v.0.all_mapped ab g v.0.due_mapped db d.mapped y d.most_mapped pb refl sum same_mapped lengths given room (law.counted p v view)

  pub dials_count_one : v.0.all_mapped + 1 ≤ v.0.windows * (map_length + 1) → Dials t trays (set words 2 (get_or words 2 0 + 1)) (set views p (one_counted v.0 (get_or words 2 0 + 1), v.1))
  dials_count_one room = back 2 (d.mapped + 1) (record d { mapped = d.mapped + 1 }) (one_counted v.0 (d.mapped + 1), v.1) refl
      (mapped_step (v.0.mapped + 1) (v.0.all_mapped + 1) ((d.mapped + 1) ∷ v.0.due_mapped) (d.mapped + 1) d.most_mapped (omega arith) (due_tally d.mapped (d.mapped + 1) d.most_mapped v.0.due_mapped v.0.all_mapped (v.0.all_mapped + 1) (omega arith) (omega arith)) room)

  pub dials_uncount : 1 ≤ v.0.mapped → Dials t trays (set words 2 (get_or words 2 0 - 1)) (set views p (one_uncounted v.0, v.1))
  dials_uncount own = let l = mapped_least in back 2 (d.mapped - 1) (record d { mapped = d.mapped - 1 }) (one_uncounted v.0, v.1) refl
      (mapped_step (v.0.mapped - 1) v.0.all_mapped v.0.due_mapped (d.mapped - 1) d.most_mapped (omega arith) (less_tally d.mapped (d.mapped - 1) d.most_mapped v.0.due_mapped v.0.all_mapped v.0.all_mapped (omega arith) (omega arith)) (law.counted p v view))

  pub dials_count_bytes : (k : ℕ) → v.0.given + k ≤ v.0.windows * map_length → Dials t trays (set words 3 (get_or words 3 0 + k)) (set views p (bytes_counted v.0 (get_or words 3 0 + k) k, v.1))
  dials_count_bytes k room = back 3 (d.bytes + k) (record d { bytes = d.bytes + k }) (bytes_counted v.0 (d.bytes + k) k, v.1) refl
      (bytes_step (v.0.bytes + k) (v.0.all_bytes + k) (v.0.given + k) ((d.bytes + k) ∷ v.0.due_bytes) (d.bytes + k) d.most_bytes (omega arith) (due_tally d.bytes (d.bytes + k) d.most_bytes v.0.due_bytes v.0.all_bytes (v.0.all_bytes + k) (omega arith) (omega arith)) (omega arith) room)

  pub dials_uncount_bytes : (k : ℕ) → k ≤ v.0.bytes → Dials t trays (set words 3 (get_or words 3 0 - k)) (set views p (bytes_uncounted v.0 k, v.1))
  dials_uncount_bytes k own = let l = bytes_least in back 3 (d.bytes - k) (record d { bytes = d.bytes - k }) (bytes_uncounted v.0 k, v.1) refl
      (bytes_step (v.0.bytes - k) v.0.all_bytes v.0.given v.0.due_bytes (d.bytes - k) d.most_bytes (omega arith) (less_tally d.bytes (d.bytes - k) d.most_bytes v.0.due_bytes v.0.all_bytes v.0.all_bytes (omega arith) (omega arith)) (omega arith) (law.windows p v view))

  pub dials_shorten_bytes : (k : ℕ) → k ≤ v.0.bytes → Dials t trays (set words 3 (get_or words 3 0 - k)) (set views p (bytes_shortened v.0 (get_or words 3 0 - k) k, v.1))
  dials_shorten_bytes k own = let l = bytes_least in back 3 (d.bytes - k) (record d { bytes = d.bytes - k }) (bytes_shortened v.0 (d.bytes - k) k, v.1) refl
      (bytes_step (v.0.bytes - k) v.0.all_bytes v.0.given ((d.bytes - k) ∷ v.0.due_bytes) (d.bytes - k) d.most_bytes (omega arith) (due_tally d.bytes (d.bytes - k) d.most_bytes v.0.due_bytes v.0.all_bytes v.0.all_bytes (omega arith) (omega arith)) (omega arith) (law.windows p v view))

  -- the word stays
  listed_step : (g k : ℕ) → v.0.given ≤ g → g ≤ v.0.windows * map_length → Dials t trays (set words 3 (get_or words 3 0)) (set views p (record v.0 { all_bytes = v.0.all_bytes + k; given = g }, v.1))
  listed_step g k more room = back 3 d.bytes d (record v.0 { all_bytes = v.0.all_bytes + k; given = g }, v.1) refl
      (bytes_step v.0.bytes (v.0.all_bytes + k) g v.0.due_bytes d.bytes d.most_bytes refl (less_tally d.bytes d.bytes d.most_bytes v.0.due_bytes v.0.all_bytes (v.0.all_bytes + k) (omega arith) (omega arith)) (omega arith) room)

  pub dials_give_length : (k : ℕ) → v.0.given + k ≤ v.0.windows * map_length → Dials t trays (set words 3 (get_or words 3 0)) (set views p (length_given v.0 k, v.1))
  dials_give_length k room = listed_step (v.0.given + k) k (omega arith) room

  pub dials_list_length : (k : ℕ) → Dials t trays (set words 3 (get_or words 3 0)) (set views p (length_listed v.0 k, v.1))
  dials_list_length k = listed_step v.0.given k (omega arith) (law.windows p v view)

  pub dials_raise_mapped : (k : ℕ) (rest : List ℕ) → v.0.due_mapped ≡ k ∷ rest → Dials t trays (set words 4 (max (get_or words 4 0) k)) (set views p (most_mapped_raised v.0, v.1))
  dials_raise_mapped k rest due = back 4 (max d.most_mapped k) (record d { most_mapped = max d.most_mapped k }) (most_mapped_raised v.0, v.1) refl
      (mapped_step v.0.mapped v.0.all_mapped (drop 1 v.0.due_mapped) d.mapped (max d.most_mapped k) refl (raised_tally d.mapped d.most_mapped k v.0.due_mapped rest v.0.all_mapped due) (law.counted p v view))

  pub dials_raise_bytes : (k : ℕ) (rest : List ℕ) → v.0.due_bytes ≡ k ∷ rest → Dials t trays (set words 5 (max (get_or words 5 0) k)) (set views p (most_bytes_raised v.0, v.1))
  dials_raise_bytes k rest due = back 5 (max d.most_bytes k) (record d { most_bytes = max d.most_bytes k }) (most_bytes_raised v.0, v.1) refl
      (bytes_step v.0.bytes v.0.all_bytes v.0.given (drop 1 v.0.due_bytes) d.bytes (max d.most_bytes k) refl (raised_tally d.bytes d.most_bytes k v.0.due_bytes rest v.0.all_bytes due) (omega arith) (law.windows p v view))

  -- ---- thresholds and reads

  abbrev relisted : List ℕ → List (ℕ × ℕ) → List (ℕ × ℕ) → Counting
  relisted raises sets read = (record v.0 { raises = raises; set = sets; read = read }, v.1)

  told : (raises : List ℕ) (sets read : List (ℕ × ℕ)) (x y : ℕ)
      → (x ≡ d.mmap_threshold) ⊎ (IsSetTo 0 x sets ⊎ IsIn x raises) → (y ≡ d.trim_threshold) ⊎ (IsSetTo 1 y sets ⊎ ((m : ℕ) × (y ≡ 2 * m) × IsIn m raises))
      → ((i n : ℕ) → IsSetTo i n v.0.set → IsSetTo i n sets) → ((n : ℕ) → IsIn n v.0.raises → IsIn n raises) → AreRaises t raises → AreRead t views read
      → Dials t trays (words_in record d { mmap_threshold = x; trim_threshold = y }) (set views p (relisted raises sets read))
  told raises sets read x y mmap trim set_more more are_raises are_read = dials_step t trays views p d (record d { mmap_threshold = x; trim_threshold = y }) v (relisted raises sets read) law6 view refl record {
    mapped = refl;
    bytes = refl;
    count = same_mapped;
    lengths = same_bytes;
    given = omega arith;
    windows = refl;
    room = (law.windows p v view, law.counted p v view);
    mmap = mmap;
    trim = trim;
    sets = set_more;
    more = more;
    raises = are_raises;
    read = are_read;
  }

  pub dials_raise_mmap : (k : ℕ) → AreRaises t (k ∷ []) → Dials t trays (set words 0 (max (get_or words 0 0) k)) (set views p (threshold_raised v.0 k, v.1))
  dials_raise_mmap k is = back 0 (max d.mmap_threshold k) (record d { mmap_threshold = max d.mmap_threshold k }) (threshold_raised v.0 k, v.1) refl
      (told (k ∷ v.0.raises) v.0.set v.0.read (max d.mmap_threshold k) d.trim_threshold (⊎_elim (λ a. inl a) (λ b. inr (inr (inl b))) (max_either d.mmap_threshold k)) (inl refl) (λ i n h. h) (λ n h. inr h) (is.0, is.1, law.raises p v view) (law.read p v view))

  pub dials_raise_trim : (k : ℕ) → IsIn k v.0.raises → Dials t trays (set words 1 (max (get_or words 1 0) (2 * k))) (set views p v)
  dials_raise_trim k raised = back 1 (max d.trim_threshold (2 * k)) (record d { trim_threshold = max d.trim_threshold (2 * k) }) v refl
      (told v.0.raises v.0.set v.0.read d.mmap_threshold (max d.trim_threshold (2 * k)) (inl refl) (⊎_elim (λ a. inl a) (λ b. inr (inr (k, b, raised))) (max_either d.trim_threshold (2 * k))) (λ i n h. h) (λ n h. h) (law.raises p v view) (law.read p v view))

  pub dials_set_mmap : (k : ℕ) → Dials t trays (set words 0 k) (set views p (threshold_set v.0 0 k, v.1))
  dials_set_mmap k = back 0 k (record d { mmap_threshold = k }) (threshold_set v.0 0 k, v.1) refl
      (told v.0.raises ((0, k) ∷ v.0.set) v.0.read k d.trim_threshold (inr (inl (inl (refl, refl)))) (inl refl) (λ i n h. inr h) (λ n h. h) (law.raises p v view) (law.read p v view))

  pub dials_set_trim : (k : ℕ) → Dials t trays (set words 1 k) (set views p (threshold_set v.0 1 k, v.1))
  dials_set_trim k = back 1 k (record d { trim_threshold = k }) (threshold_set v.0 1 k, v.1) refl
      (told v.0.raises ((1, k) ∷ v.0.set) v.0.read d.mmap_threshold k (inl refl) (inr (inl (inl (refl, refl)))) (λ i n h. inr h) (λ n h. h) (law.raises p v view) (law.read p v view))

  may_read : (i : ℕ) → i < 6 → IsRead t views (i, get_or words i 0)
  may_read zero l = law.thresholds.0
  may_read (suc zero) l = law.thresholds.1
  may_read (suc (suc zero)) l = law.all_mapped.0
  may_read (suc (suc (suc zero))) l = law.all_bytes.0
  may_read (suc (suc (suc (suc zero)))) l = law.all_mapped.1
  may_read (suc (suc (suc (suc (suc zero))))) l = law.all_bytes.1
  may_read (suc (suc (suc (suc (suc (suc i)))))) l = absurd (omega arith)

  pub dials_read : (i : ℕ) → i < 6 → Dials t trays (set words i (get_or words i 0)) (set views p (dial_read v.0 i (get_or words i 0), v.1))
  dials_read i l = subst (λ (ws : List ℕ). Dials t trays ws (set views p (dial_read v.0 i (get_or words i 0), v.1))) (sym (six words long) ∙ sym (set-get_or words i 0))
      (told v.0.raises v.0.set ((i, get_or words i 0) ∷ v.0.read) d.mmap_threshold d.trim_threshold (inl refl) (inl refl) (λ k n h. h) (λ n h. h) (law.raises p v view) (may_read i l, law.read p v view))
