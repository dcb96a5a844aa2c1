-- A step of the plain bins that changes one of them.
use Rattle.std.proofs.Common.{◌≡◌, ◌≢◌, ℕ, zero, suc, ◌+◌, ◌≤◌, ◌<◌, Bool, true, false, cond, IsTrue, Option, Some, None, List, [], ◌∷◌, ◌++◌, map, set, get_or, drop, length, sym, ap, ◌∙◌, subst, inl, inr, arith, refl}
use Rattle.std.specs.Prelude.{nat_eq, nat_lt}
use Rattle.std.proofs.lemmas.Bool.{cases_eq}
use Rattle.std.proofs.lemmas.Bool.Decides.{nat_tests}
use Rattle.std.proofs.lemmas.List.{map-set, get_or-map, get_or_default, get_or-set_same, get_or-set_other, length-map, length-append}
use Rattle.std.proofs.lemmas.List.Sums.{sum_by-append}
use Rattle.chunk_tags.specs.BinOrder.{times_in, same_chunk, fast_chunk, once}
use Rattle.chunk_tags.specs.declared.tiles.Chunk.{Chunk}
use Rattle.fast_bins.specs.FastPorts.{FastStep, Pushes, Pops, Gathers, Owns, Did, times_given, times_put, leaves_room}
use Rattle.fast_bins.specs.PlainBins.{FastBin, FastState, RoomyBin, PlainBins, empty_bin, no_bin, listed, fast_bin_at, pushed, first_in, without_front, gathered, own_front, without_own, on_bin, FastTells, after_fast_step, chunks_from, has_room, state_of, ten_bins, plain_fast}

-- b is the bin at an index
pub record Reads (p : PlainBins) (i : ℕ) (b : RoomyBin) : Type 0 where
  pub below : i < length p.bins
  pub read : get_or p.bins i no_bin ≡ b

pub bin_read_at : (p : PlainBins) (i : ℕ) (d : RoomyBin) → i < length p.bins → Reads p i (get_or p.bins i d)
bin_read_at p i d below = record { below = below; read = get_or_default p.bins i no_bin d below }

bin_read : (p : PlainBins) (i : ℕ) (b : RoomyBin) → Reads p i b → fast_bin_at (state_of p) i ≡ b.bin
bin_read p i b r =
    get_or-map (λ x. x.bin) p.bins i no_bin empty_bin r.below ∙ ap (λ (x : RoomyBin). x.bin) r.read

bins_with : (p : PlainBins) (i : ℕ) (b b' : RoomyBin) (f : FastBin → FastBin) → Reads p i b → b'.bin ≡ f b.bin → map (λ x. x.bin) (set p.bins i b') ≡ (on_bin i f (state_of p)).bins
bins_with p i b b' f r e =
    map-set (λ x. x.bin) p.bins i b' ∙ ap (set (map (λ x. x.bin) p.bins) i) (e ∙ ap f (sym (bin_read p i b r)))

-- the chunks of a bin, counted
abbrev times_at : Chunk → ℕ → FastBin → ℕ
times_at e i b = times_in e (map (fast_chunk i) (listed b))

times_in-append : (e : Chunk) (cs ds : List Chunk) → times_in e (cs ++ ds) ≡ times_in e cs + times_in e ds
times_in-append e cs ds = sum_by-append (λ c. cond (same_chunk e c) 1 0) cs ds

times_in-cons : (e c : Chunk) (cs : List Chunk) → times_in e (c ∷ cs) ≡ once e c + times_in e cs
times_in-cons e c cs = omega (arith, times_in-append e (c ∷ []) cs)

chunks_with : (e : Chunk) (k i j : ℕ) (bs : List FastBin) (b : FastBin) → i < length bs → j ≡ k + i → times_in e (chunks_from k (set bs i b)) + times_at e j (get_or bs i empty_bin) ≡ times_in e (chunks_from k bs) + times_at e j b
chunks_with e k i j [] b h q = absurd (omega arith)
chunks_with e k zero j (x ∷ bs) b h q =
    let here : j ≡ k = omega arith in
    subst (λ n. times_in e (chunks_from k (b ∷ bs)) + times_at e n x ≡ times_in e (chunks_from k (x ∷ bs)) + times_at e n b) (sym here)
    (omega (arith, times_in-append e (map (fast_chunk k) (listed b)) (chunks_from (k + 1) bs), times_in-append e (map (fast_chunk k) (listed x)) (chunks_from (k + 1) bs)))
chunks_with e k (suc i) j (x ∷ bs) b h q =
    omega (arith, chunks_with e (k + 1) i j bs b (omega arith) (omega arith), times_in-append e (map (fast_chunk k) (listed x)) (chunks_from (k + 1) (set bs i b)), times_in-append e (map (fast_chunk k) (listed x)) (chunks_from (k + 1) bs))

-- What a step makes of the bin with an index, by a function on bins.
record Turns (s : FastStep) (i : ℕ) (f : FastBin → FastBin) (b b' : RoomyBin) : Type 0 where
  bin : b'.bin ≡ f b.bin
  times : (e : Chunk) → times_at e i (f b.bin) + times_given s e ≡ times_at e i b.bin + times_put s e
  room : IsTrue (leaves_room s i (has_room b)) → IsTrue (has_room b')
  others : (k : ℕ) (had : Bool) → k ≢ i → leaves_room s k had ≡ had

stock_with : (p : PlainBins) (s : FastStep) (i : ℕ) (f : FastBin → FastBin) (b b' : RoomyBin) → Reads p i b → Turns s i f b b' → (e : Chunk) → times_in e (chunks_from 0 (map (λ x. x.bin) (set p.bins i b'))) + times_given s e ≡ times_in e (chunks_from 0 (map (λ x. x.bin) p.bins)) + times_put s e
stock_with p s i f b b' r t e =
    let bins = map (λ (x : RoomyBin). x.bin) p.bins in
    let long : i < length bins = omega (arith, r.below, length-map p.bins (λ (x : RoomyBin). x.bin)) in
    let old : times_at e i (get_or bins i empty_bin) ≡ times_at e i b.bin = ap (times_at e i) (bin_read p i b r) in
    let new : times_at e i b'.bin ≡ times_at e i (f b.bin) = ap (times_at e i) t.bin in
    let kept : times_in e (chunks_from 0 (map (λ (x : RoomyBin). x.bin) (set p.bins i b'))) ≡ times_in e (chunks_from 0 (set bins i b'.bin)) = ap (λ bs. times_in e (chunks_from 0 bs)) (map-set (λ x. x.bin) p.bins i b') in
    omega (arith, t.times e, chunks_with e 0 i i bins b'.bin long (omega arith))

room_with : (p : PlainBins) (s : FastStep) (i : ℕ) (f : FastBin → FastBin) (b b' : RoomyBin) → Reads p i b → Turns s i f b b' → (k : ℕ) → IsTrue (leaves_room s k (has_room (get_or p.bins k no_bin))) → IsTrue (has_room (get_or (set p.bins i b') k no_bin))
room_with p s i f b b' r t k had =
    elim (cases_eq k i) [
      | inl e ↦ subst (λ n. IsTrue (has_room (get_or (set p.bins i b') n no_bin))) (sym e)
          (subst (λ x. IsTrue (has_room x)) (sym (get_or-set_same p.bins i b' no_bin r.below))
          (t.room (subst (λ x. IsTrue (leaves_room s i (has_room x))) r.read (subst (λ n. IsTrue (leaves_room s n (has_room (get_or p.bins n no_bin)))) e had))))
      | inr ne ↦ subst (λ x. IsTrue (has_room x)) (sym (get_or-set_other p.bins i k b' no_bin ne))
          (subst IsTrue (t.others k (has_room (get_or p.bins k no_bin)) ne) had)
    ]

did_at : (p : PlainBins) (s : FastStep) (i : ℕ) (f : FastBin → FastBin) (b b' : RoomyBin) (flag : Bool) → Reads p i b → Turns s i f b b' → FastTells (state_of p) s → after_fast_step s (state_of p) ≡ record (on_bin i f (state_of p)) { flag = flag } → Did plain_fast p s (record { flag = flag; bins = set p.bins i b' })
did_at p s i f b b' flag r t tells e = record {
  step = (tells, ap (λ bins. let s : FastState = record { flag = flag; bins = bins } in s) (bins_with p i b b' f r t.bin) ∙ sym e);
  stock = stock_with p s i f b b' r t;
  room = room_with p s i f b b' r t;
}

-- The four steps that change a bin.

other_bin : (k i : ℕ) → k ≢ i → nat_eq k i ≡ false
other_bin k i ne = grind (arith, nat_tests)

same_bin : (i : ℕ) → nat_eq i i ≡ true
same_bin i = grind (arith, nat_tests)

turns_by_push : (i at : ℕ) (b b' : RoomyBin) → b'.bin ≡ pushed at b.bin → Turns (Pushes i at) i (pushed at) b b'
turns_by_push i at b b' e = record {
  bin = e;
  times = λ c. omega (arith, times_in-cons c (fast_chunk i at) (map (fast_chunk i) (listed b.bin)));
  room = λ h. let no = rw (same_bin i) at h in absurd cc;
  others = λ k had ne. rw (other_bin k i ne);
}

-- a bin with the room of another
with_room : (b b' : RoomyBin) (f : FastBin → FastBin) → b'.bin ≡ f b.bin → b'.room ≡ b.room → IsTrue (nat_lt (length (listed (f b.bin))) b.room) → IsTrue (has_room b')
with_room b b' f bin room h =
    subst (λ n. IsTrue (nat_lt (length (listed b'.bin)) n)) (sym room) (subst (λ x. IsTrue (nat_lt (length (listed x)) b.room)) (sym bin) h)

turns_by_gather : (i : ℕ) (b b' : RoomyBin) → b'.bin ≡ gathered b.bin → b'.room ≡ b.room → Turns (Gathers i) i gathered b b'
turns_by_gather i b b' e room = record {
  bin = e;
  times = λ c. refl;
  room = with_room b b' gathered e room;
  others = λ k had ne. refl;
}

some_room : (n room : ℕ) → suc n ≤ room → IsTrue (nat_lt n room)
some_room n room h = grind (arith, nat_tests)

front_times : (i : ℕ) (chain own : List ℕ) (e : Chunk) → let b : FastBin = record { chain = chain; own = own } in times_at e i (without_front b) + times_given (Pops i (first_in b)) e ≡ times_at e i b + 0
front_times i [] [] e = refl
front_times i [] (x ∷ own) e = omega (arith, times_in-cons e (fast_chunk i x) (map (fast_chunk i) own))
front_times i (x ∷ chain) own e = omega (arith, times_in-cons e (fast_chunk i x) (map (fast_chunk i) (chain ++ own)))

front_room : (i : ℕ) (chain own : List ℕ) (room : ℕ) → let b : FastBin = record { chain = chain; own = own } in length (listed b) ≤ room → IsTrue (leaves_room (Pops i (first_in b)) i (nat_lt (length (listed b)) room)) → IsTrue (nat_lt (length (listed (without_front b))) room)
front_room i [] [] room within h = h
front_room i [] (x ∷ own) room within h = some_room (length own) room within
front_room i (x ∷ chain) own room within h = some_room (length (chain ++ own)) room within

front_others : (i k : ℕ) (answer : Option ℕ) (had : Bool) → k ≢ i → leaves_room (Pops i answer) k had ≡ had
front_others i k None had ne = refl
front_others i k (Some at) had ne = rw (other_bin k i ne)

turns_by_pop : (i : ℕ) (b b' : RoomyBin) → b'.bin ≡ without_front b.bin → b'.room ≡ b.room → length (listed b.bin) ≤ b.room → Turns (Pops i (first_in b.bin)) i without_front b b'
turns_by_pop i b b' e room within = record {
  bin = e;
  times = front_times i b.bin.chain b.bin.own;
  room = λ h. with_room b b' without_front e room (front_room i b.bin.chain b.bin.own b.room within h);
  others = λ k had ne. front_others i k (first_in b.bin) had ne;
}

own_times : (i : ℕ) (chain own : List ℕ) (e : Chunk) → let b : FastBin = record { chain = chain; own = own } in times_at e i (without_own b) + times_given (Owns i (own_front b)) e ≡ times_at e i b + 0
own_times i [] [] e = refl
own_times i [] (x ∷ own) e = omega (arith, times_in-cons e (fast_chunk i x) (map (fast_chunk i) own))
own_times i (y ∷ chain) own e =
    omega (arith, own_times i chain own e, times_in-cons e (fast_chunk i y) (map (fast_chunk i) (chain ++ drop 1 own)), times_in-cons e (fast_chunk i y) (map (fast_chunk i) (chain ++ own)))

own_room : (i : ℕ) (chain own : List ℕ) (room : ℕ) → let b : FastBin = record { chain = chain; own = own } in length (listed b) ≤ room → IsTrue (leaves_room (Owns i (own_front b)) i (nat_lt (length (listed b)) room)) → IsTrue (nat_lt (length (listed (without_own b))) room)
own_room i chain [] room within h = h
own_room i chain (x ∷ own) room within h =
    some_room (length (chain ++ own)) room (omega (arith, within, length-append chain own, length-append chain (x ∷ own)))

own_others : (i k : ℕ) (answer : Option ℕ) (had : Bool) → k ≢ i → leaves_room (Owns i answer) k had ≡ had
own_others i k None had ne = refl
own_others i k (Some at) had ne = rw (other_bin k i ne)

turns_by_own : (i : ℕ) (b b' : RoomyBin) → b'.bin ≡ without_own b.bin → b'.room ≡ b.room → length (listed b.bin) ≤ b.room → Turns (Owns i (own_front b.bin)) i without_own b b'
turns_by_own i b b' e room within = record {
  bin = e;
  times = own_times i b.bin.chain b.bin.own;
  room = λ h. with_room b b' without_own e room (own_room i b.bin.chain b.bin.own b.room within h);
  others = λ k had ne. own_others i k (own_front b.bin) had ne;
}

-- The steps of the port: b is the bin with that index, b' what becomes of it.

pushes : (p : PlainBins) (i at : ℕ) (b b' : RoomyBin) → Reads p i b → b'.bin ≡ pushed at b.bin → Did plain_fast p (Pushes i at) (record { flag = true; bins = set p.bins i b' })
pushes p i at b b' r e = did_at p (Pushes i at) i (pushed at) b b' true r (turns_by_push i at b b' e) tt refl

gathers : (p : PlainBins) (i : ℕ) (b b' : RoomyBin) → Reads p i b → b'.bin ≡ gathered b.bin → b'.room ≡ b.room → Did plain_fast p (Gathers i) (record p { bins = set p.bins i b' })
gathers p i b b' r e room = did_at p (Gathers i) i gathered b b' p.flag r (turns_by_gather i b b' e room) tt refl

-- what a pop leaves of a bin
pub record Pulls (f : FastBin → FastBin) (b b' : RoomyBin) : Type 0 where
  pub bin : b'.bin ≡ f b.bin
  pub room : b'.room ≡ b.room
  pub within : length (listed b.bin) ≤ b.room

pops : (p : PlainBins) (i : ℕ) (b b' : RoomyBin) (answer : Option ℕ) → Reads p i b → answer ≡ first_in b.bin → Pulls without_front b b' → Did plain_fast p (Pops i answer) (record p { bins = set p.bins i b' })
pops p i b b' answer r e pulls =
    subst (λ o. Did plain_fast p (Pops i o) (record p { bins = set p.bins i b' })) (sym e)
    (did_at p (Pops i (first_in b.bin)) i without_front b b' p.flag r (turns_by_pop i b b' pulls.bin pulls.room pulls.within) (ap first_in (sym (bin_read p i b r))) refl)

pops_own : (p : PlainBins) (i : ℕ) (b b' : RoomyBin) (answer : Option ℕ) → Reads p i b → answer ≡ own_front b.bin → Pulls without_own b b' → Did plain_fast p (Owns i answer) (record p { bins = set p.bins i b' })
pops_own p i b b' answer r e pulls =
    subst (λ o. Did plain_fast p (Owns i o) (record p { bins = set p.bins i b' })) (sym e)
    (did_at p (Owns i (own_front b.bin)) i without_own b b' p.flag r (turns_by_own i b b' pulls.bin pulls.room pulls.within) (ap own_front (sym (bin_read p i b r))) refl)

-- ---- bins that are kept in a list, which may be empty

ten_here : (bins : List RoomyBin) (i : ℕ) → i < length bins → ten_bins bins ≡ bins
ten_here [] i below = absurd (omega (arith, below))
ten_here (b ∷ bins) i below = refl

ten_set : (bins : List RoomyBin) (i : ℕ) (b : RoomyBin) → i < length bins → set (ten_bins bins) i b ≡ ten_bins (set bins i b)
ten_set [] i b below = absurd (omega (arith, below))
ten_set (b' ∷ bins) zero b below = refl
ten_set (b' ∷ bins) (suc i) b below = refl

abbrev kept : Bool → List RoomyBin → PlainBins
kept flag bins = record { flag = flag; bins = ten_bins bins }

-- b is read from that list
read_kept : (flag : Bool) (bins : List RoomyBin) (i : ℕ) (b : RoomyBin) → i < length bins → b ≡ get_or bins i b → Reads (kept flag bins) i b
read_kept flag bins i b below read =
    let here : ten_bins bins ≡ bins = ten_here bins i below in
    record {
      below = omega (arith, below, ap (λ (bs : List RoomyBin). length bs) here);
      read = ap (λ bs. get_or bs i no_bin) here ∙ (sym (get_or_default bins i b no_bin below) ∙ sym read);
    }

-- a step, told of that list
did_kept : (flag now : Bool) (bins : List RoomyBin) (s : FastStep) (i : ℕ) (b : RoomyBin) → i < length bins → Did plain_fast (kept flag bins) s (record { flag = now; bins = set (ten_bins bins) i b }) → Did plain_fast (kept flag bins) s (kept now (set bins i b))
did_kept flag now bins s i b below did =
    subst (λ (bs : List RoomyBin). Did plain_fast (kept flag bins) s (record { flag = now; bins = bs })) (ten_set bins i b below) did

pub kept_push : (flag : Bool) (bins : List RoomyBin) (i at : ℕ) (b b' : RoomyBin) → i < length bins → b ≡ get_or bins i b → b'.bin ≡ pushed at b.bin → Did plain_fast (kept flag bins) (Pushes i at) (kept true (set bins i b'))
kept_push flag bins i at b b' below read e =
    did_kept flag true bins (Pushes i at) i b' below (pushes (kept flag bins) i at b b' (read_kept flag bins i b below read) e)

pub kept_pop : (flag : Bool) (bins : List RoomyBin) (i : ℕ) (b b' : RoomyBin) (answer : Option ℕ) → i < length bins → b ≡ get_or bins i b → answer ≡ first_in b.bin → Pulls without_front b b' → Did plain_fast (kept flag bins) (Pops i answer) (kept flag (set bins i b'))
kept_pop flag bins i b b' answer below read e pulls =
    did_kept flag flag bins (Pops i answer) i b' below (pops (kept flag bins) i b b' answer (read_kept flag bins i b below read) e pulls)

pub kept_pop_own : (flag : Bool) (bins : List RoomyBin) (i : ℕ) (b b' : RoomyBin) (answer : Option ℕ) → i < length bins → b ≡ get_or bins i b → answer ≡ own_front b.bin → Pulls without_own b b' → Did plain_fast (kept flag bins) (Owns i answer) (kept flag (set bins i b'))
kept_pop_own flag bins i b b' answer below read e pulls =
    did_kept flag flag bins (Owns i answer) i b' below (pops_own (kept flag bins) i b b' answer (read_kept flag bins i b below read) e pulls)

pub kept_gather : (flag : Bool) (bins : List RoomyBin) (i : ℕ) (b b' : RoomyBin) → i < length bins → b ≡ get_or bins i b → b'.bin ≡ gathered b.bin → b'.room ≡ b.room → Did plain_fast (kept flag bins) (Gathers i) (kept flag (set bins i b'))
kept_gather flag bins i b b' below read e room =
    did_kept flag flag bins (Gathers i) i b' below (gathers (kept flag bins) i b b' (read_kept flag bins i b below read) e room)
