-- What is before and behind an aligned part is cut off.
use Rattle.std.proofs.Common.{◌≡◌, ℕ, ◌+◌, ◌%◌, ◌≤◌, true, false, Some, Result, Ok, Err, refl, sym, ap, ◌∙◌, subst, arith}
use Rattle.std.specs.Prelude.{nat_eq, nat_lt, IfOk}
use Rattle.std.specs.Result.{IsErr}
use Rattle.std.proofs.lemmas.Bool.{cond-true, cond-false, ne_eqb}
use Rattle.chunk_tags.specs.BinOrder.{once}
use Rattle.chunk_tags.specs.Sizes.{IsChunkSize}
use Rattle.chunk_tags.specs.declared.refusals.NoMemory.{NoMemory}
use Rattle.chunk_tags.specs.declared.tiles.Chunk.{Chunk}
use Rattle.chunk_tags.specs.declared.tunables.Tunables.{Tunables}
use Rattle.arena_rules.specs.PlainArena.{Plain, IsSound}
use Rattle.arena_rules.specs.Moves.{hand, parted}
use Rattle.arena_rules.specs.Growth.{Took}
use Rattle.arena_rules.specs.Resize.{front_of, back_of, took_in, cut_behind}
use Rattle.arena_rules.specs.Rules.{Rules, Stop, behind}
use Rattle.arena_rules.specs.Align.{IsAlignment, size_with_lead, lead_of, tail_cut, lead_cut, aligned_in, align_with, align_of}
use Rattle.arena_rules.specs.Search.{searched}
use Rattle.arena_rules.specs.Walks.{Reaches}
use Rattle.arena_rules.proofs.Aligns.{IsLead, lead_is, lead_chunk, aligned_part_fits}
use Rattle.arena_rules.proofs.ChunkMoves.{own_count}
use Rattle.arena_rules.proofs.Own.{own_tile}
use Rattle.arena_rules.proofs.Resizes.{cut_at, IsCutAt}
use Rattle.arena_rules.proofs.Walks.{reaches_here}
use Rattle.fast_bins.specs.FastPorts.{Fast}
use Rattle.consolidate_trim.specs.Holds.{no_chunk, one_chunk, IsBacked}
use Rattle.consolidate_trim.specs.Outside.{Means, Outside}
use Rattle.consolidate_trim.proofs.HoldSteps.{hand_own}
use Rattle.arena_growth.specs.Ledgers.{Stage, stage, Balances, Works, full}
use Rattle.arena_growth.specs.Steps.{IsEnough}
use Rattle.arena_growth.proofs.Balance.{works_ok, balances_as}
use Rattle.arena_growth.proofs.Parts.{short_behind_works}
use Rattle.arena_growth.specs.declared.found.Found.{Found}
use Rattle.arena_growth.specs.declared.found.Found.TheVariants.{InArena, InMapping}
use Rattle.arena_growth.specs.Asking.{Closes, Finds, IsEnoughMapped, took, chunks_found}
use Rattle.realloc_align.specs.Aligns.{AlignsChunk, CutsLead, FitsAt, FitsAligned}
use Rattle.realloc_align.specs.Resizes.{Comes}
use Rattle.realloc_align.proofs.Accounts.{balances_move, balances_still, backed_with, backed_less, comes_behind, works_comes, comes_released, short_released}

-- ---- a chunk is parted

-- a chunk in hand can be parted
pub can_cut : {P : Type 0} {fast : Fast P} {a : Plain} {port : P} (c : Chunk) (nb : ℕ) → IsBacked fast a port (one_chunk c) → IsChunkSize nb → nb + 32 ≤ c.size → IsCutAt a c nb
can_cut {a = a} c nb backed chunk le = cut_at a c nb backed.sound (own_count a c (hand_own c backed)) chunk le

-- and both parts are in hand then
pub cut_hand : {P K : Type 0} (m : Means P K) (x : Stage (Outside P K)) (c : Chunk) (nb : ℕ) → IsCutAt x.arena c nb → Balances (full m) x (one_chunk c) (λ e. once e (front_of c nb) + once e (back_of c nb)) (stage (parted x.arena c nb) x.outside x.said)
cut_hand m x c nb cut = balances_move (full m) x (parted x.arena c nb) (one_chunk c) (λ e. once e (front_of c nb) + once e (back_of c nb)) cut.moved refl

pub parts_backed : {P : Type 0} {fast : Fast P} {a : Plain} {port : P} (c : Chunk) (nb : ℕ) → IsBacked fast a port (one_chunk c) → IsCutAt a c nb → IsBacked fast (parted a c nb) port (λ e. once e (front_of c nb) + once e (back_of c nb))
parts_backed c nb backed cut = record { sound = cut.moved.sound; used = λ e. omega (arith, backed.used e, cut.moved.used e) }

-- ---- a tail

tail_rules : (t : Tunables) (a : Plain) (c : Chunk) (nb : ℕ) → nat_lt (nb + 32) c.size ≡ true → tail_cut t nb (hand c a) ≡ cut_behind t nb (hand c a)
tail_rules t a c nb is = cond-true {A = Rules Took} (nat_lt (nb + 32) c.size) _ _ is

pub tail_stays : {P K : Type 0} (m : Means P K) (t : Tunables) (c : Chunk) (nb : ℕ) (x : Stage (Outside P K)) → IsSound x.arena → nat_lt (nb + 32) c.size ≡ false → AlignsChunk m t (tail_cut t nb (hand c x.arena)) c x (Ok c) x
tail_stays m t c nb x s is =
    let rules : tail_cut t nb (hand c x.arena) ≡ Stop (took_in c x.arena) = cond-false {A = Rules Took} (nat_lt (nb + 32) c.size) _ _ is in
    works_ok (subst (λ r. Reaches t ((full m).ways x.arena.number) r x.outside x.said (Stop (took_in c x.arena)) x.said x.outside) (sym rules) reaches_here) (balances_still (full m) x (one_chunk c) s)

-- the tail first, the part that is kept behind it
tail_hand : {P K : Type 0} (m : Means P K) (x : Stage (Outside P K)) (c : Chunk) (nb : ℕ) → IsCutAt x.arena c nb → Balances (full m) x (one_chunk c) (λ e. once e (back_of c nb) + once e (front_of c nb)) (stage (parted x.arena c nb) x.outside x.said)
tail_hand m x c nb cut = balances_as (cut_hand m x c nb cut) (λ e. omega arith)

pub tail_goes : {P K : Type 0} (m : Means P K) (t : Tunables) (c : Chunk) (nb : ℕ) (x z : Stage (Outside P K)) → nat_lt (nb + 32) c.size ≡ true → IsCutAt x.arena c nb → Closes m t (Some (back_of c nb)) (stage (parted x.arena c nb) x.outside x.said) (Ok tt) z → AlignsChunk m t (tail_cut t nb (hand c x.arena)) c x (Ok (front_of c nb)) z
tail_goes m t c nb x z is cut v =
    let comes = comes_released (λ b. Stop (took_in (front_of c nb) b)) (back_of c nb) x z (parted x.arena c nb) (one_chunk c) (one_chunk (front_of c nb)) (tail_rules t x.arena c nb is) (tail_hand m x c nb cut) v in
    works_ok comes.reaches comes.balances

pub tail_short : {P K : Type 0} (m : Means P K) (t : Tunables) (c : Chunk) (nb : ℕ) (x z : Stage (Outside P K)) (d : NoMemory) (r : Result Chunk NoMemory) → IsErr r → nat_lt (nb + 32) c.size ≡ true → IsCutAt x.arena c nb → Closes m t (Some (back_of c nb)) (stage (parted x.arena c nb) x.outside x.said) (Err d) z → AlignsChunk m t (tail_cut t nb (hand c x.arena)) c x r z
tail_short m t c nb x z d r err is cut v =
    short_released (λ b. Stop (took_in (front_of c nb) b)) (back_of c nb) x z (parted x.arena c nb) (one_chunk c) (one_chunk (front_of c nb)) d r err (tail_rules t x.arena c nb is) (tail_hand m x c nb cut) v

-- ---- a lead

-- a used chunk's address is a multiple of 16
hand_place : {P : Type 0} {fast : Fast P} {a : Plain} {port : P} (c : Chunk) → IsBacked fast a port (one_chunk c) → c.at % 16 ≡ 0
hand_place {a = a} c backed = (own_tile a c backed.sound (own_count a c (hand_own c backed))).place

-- a lead before an aligned part, and the rules then
pub record HasLead (align nb : ℕ) (a : Plain) (c : Chunk) (lead : ℕ) : Type 0 where
  pub chunk : IsChunkSize lead
  pub fits : lead + 32 ≤ c.size
  pub cut : IsCutAt a c lead
  pub aligned : (c.at + lead + 16) % align ≡ 0
  pub rules : (t : Tunables) (a : Plain) → aligned_in t align nb (hand c a) ≡ lead_cut t lead nb (hand c a)

pub has_lead : {P : Type 0} {fast : Fast P} {a : Plain} {port : P} (align nb : ℕ) (c : Chunk) (lead : ℕ) → lead ≡ lead_of align c.at → (lead ≡ 0 → ⊥) → IsAlignment align → IsBacked fast a port (one_chunk c) → nb % 16 ≡ 0 → size_with_lead align nb ≤ c.size → HasLead align nb a c lead
has_lead {a = a} align nb c lead is some i backed whole le =
    let place = hand_place c backed in
    let l : IsLead align c.at (lead_of align c.at) = lead_is align c.at i place in
    let other : nat_eq (lead_of align c.at) 0 ≡ false = ne_eqb (lead_of align c.at) 0 (λ e. some (is ∙ e)) in
    let chunk : IsChunkSize (lead_of align c.at) = lead_chunk align c.at i place other in
    let fits : lead_of align c.at + 32 ≤ c.size = omega (arith, aligned_part_fits align nb c.at c.size i place whole le) in
    subst (HasLead align nb a c) (sym is) (record {
      chunk = chunk;
      fits = fits;
      cut = can_cut c (lead_of align c.at) backed chunk fits;
      aligned = l.aligned;
      rules = λ t a. cond-false {A = Rules Took} (nat_eq (lead_of align c.at) 0) _ _ other;
    })

-- the rest of the rules behind a lead
abbrev tail_behind : Tunables → ℕ → ℕ → Chunk → Plain → Rules Took
tail_behind t lead nb c b = tail_cut t nb (hand (back_of c lead) b)

pub lead_goes : {P K : Type 0} (m : Means P K) (t : Tunables) (align nb : ℕ) (c : Chunk) (lead : ℕ) (x y z : Stage (Outside P K)) (r : Result Chunk NoMemory) → HasLead align nb x.arena c lead → Closes m t (Some (front_of c lead)) (stage (parted x.arena c lead) x.outside x.said) (Ok tt) y →
    AlignsChunk m t (tail_cut t nb (hand (back_of c lead) y.arena)) (back_of c lead) y r z → AlignsChunk m t (aligned_in t align nb (hand c x.arena)) c x r z
lead_goes m t align nb c lead x y z r h v w =
    works_comes r (comes_released (tail_behind t lead nb c) (front_of c lead) x y (parted x.arena c lead) (one_chunk c) (one_chunk (back_of c lead)) (h.rules t x.arena) (cut_hand m x c lead h.cut) v) w

pub lead_short : {P K : Type 0} (m : Means P K) (t : Tunables) (align nb : ℕ) (c : Chunk) (lead : ℕ) (x z : Stage (Outside P K)) (d : NoMemory) (r : Result Chunk NoMemory) → IsErr r → HasLead align nb x.arena c lead → Closes m t (Some (front_of c lead)) (stage (parted x.arena c lead) x.outside x.said) (Err d) z →
    AlignsChunk m t (aligned_in t align nb (hand c x.arena)) c x r z
lead_short m t align nb c lead x z d r err h v =
    short_released (tail_behind t lead nb c) (front_of c lead) x z (parted x.arena c lead) (one_chunk c) (one_chunk (back_of c lead)) d r err (h.rules t x.arena) (cut_hand m x c lead h.cut) v

-- the aligned part is in hand behind the release of the lead
pub part_backed : {P K : Type 0} (m : Means P K) (t : Tunables) (c : Chunk) (lead : ℕ) (x y : Stage (Outside P K)) → IsBacked m.fast x.arena x.outside.port (one_chunk c) → IsCutAt x.arena c lead → Closes m t (Some (front_of c lead)) (stage (parted x.arena c lead) x.outside x.said) (Ok tt) y → IsBacked m.fast y.arena y.outside.port (one_chunk (back_of c lead))
part_backed m t c lead x y backed cut v =
    backed_less (backed_with m.fast (full m) (stage (parted x.arena c lead) x.outside x.said) y x.outside.port y.outside.port (one_chunk (front_of c lead)) no_chunk (one_chunk (back_of c lead)) (λ e. refl) (λ e. refl) (parts_backed c lead backed cut) v.keeps) (λ e. omega arith)

-- memory was short in the release of a lead
pub cuts_short : {P K : Type 0} (m : Means P K) (t : Tunables) (c : Chunk) (lead : ℕ) (x y : Stage (Outside P K)) (e : NoMemory) (r : Result Chunk NoMemory) → IsErr r → Closes m t (Some (front_of c lead)) (stage (parted x.arena c lead) x.outside x.said) (Err e) y → CutsLead m t c lead x r y
cuts_short m t c lead x y e (Ok d) is v = absurd cc
cuts_short m t c lead x y e (Err d) is v = v

-- what is kept is enough, and aligned as its part is
pub fits_at : (align nb : ℕ) (part : Chunk) (r : Result Chunk NoMemory) → (part.at + 16) % align ≡ 0 → IfOk r (λ d. d.at ≡ part.at) → IfOk r (λ d. IsEnough nb d.size) → IfOk r (λ d. FitsAt align nb d.at d.size)
fits_at align nb part (Ok d) aligned at enough = record { enough = enough; aligned = ap (λ n. (n + 16) % align) at ∙ aligned }
fits_at align nb part (Err e) aligned at enough = tt

-- a chunk in hand that has so much is enough
pub enough_hand : {P : Type 0} {fast : Fast P} {a : Plain} {port : P} (c : Chunk) (nb : ℕ) → IsBacked fast a port (one_chunk c) → nb ≤ c.size → IsEnough nb c.size
enough_hand {a = a} c nb backed le = record { chunk = (own_tile a c backed.sound (own_count a c (hand_own c backed))).size; room = le }

-- ---- what was found

pub aligned_found : {P K : Type 0} (m : Means P K) (t : Tunables) (q : Rules Took) (c d : Chunk) (y z : Stage (Outside P K)) → let ok : Result Chunk NoMemory = Ok d in let found : Result Found NoMemory = Ok (InArena d) in
    AlignsChunk m t q c y ok z → Works (full m) t q (one_chunk c) y (took z.arena) chunks_found found z
aligned_found m t q c d y z w = record { walk = record { done = w.walk.done; short = tt }; keeps = w.keeps; spares = tt }

pub aligned_short : {P K : Type 0} (m : Means P K) (t : Tunables) (q : Rules Took) (c : Chunk) (e : NoMemory) (y z : Stage (Outside P K)) (r : Result Found NoMemory) → let err : Result Chunk NoMemory = Err e in
    IsErr r → AlignsChunk m t q c y err z → Works (full m) t q (one_chunk c) y (took z.arena) chunks_found r z
aligned_short m t q c e y z (Ok v) is w = absurd cc
aligned_short m t q c e y z (Err v) is w = record { walk = record { done = tt; short = w.walk.short }; keeps = tt; spares = w.spares }

pub found_comes : {P K : Type 0} (m : Means P K) (t : Tunables) (align nb n : ℕ) (x y : Stage (Outside P K)) (found : Found) → let ok : Result Found NoMemory = Ok found in
    n ≡ size_with_lead align nb → Finds m t (searched t n x.arena) x ok y → Comes (full m) t (align_of t align nb x.arena) x no_chunk (chunks_found found) (align_with t align nb (took y.arena found)) y
found_comes m t align nb n x y found is w =
    let c = comes_behind (align_with t align nb) found no_chunk w in
    subst (λ k. Comes (full m) t (behind (searched t k x.arena) (align_with t align nb)) x no_chunk (chunks_found found) (align_with t align nb (took y.arena found)) y) is (record { reaches = c.reaches; balances = balances_as c.balances (λ e. omega arith) })

pub search_short : {P K : Type 0} (m : Means P K) (t : Tunables) (align nb n : ℕ) (x y : Stage (Outside P K)) (e : NoMemory) (r : Result Found NoMemory) → let err : Result Found NoMemory = Err e in
    IsErr r → n ≡ size_with_lead align nb → Finds m t (searched t n x.arena) x err y → Finds m t (align_of t align nb x.arena) x r y
search_short m t align nb n x y e r err is w =
    subst (λ k. Finds m t (behind (searched t k x.arena) (align_with t align nb)) x r y) is (short_behind_works (align_with t align nb) e r err w)

pub found_hand : {P K : Type 0} (m : Means P K) (t : Tunables) (n : ℕ) (c : Chunk) (x y : Stage (Outside P K)) → let ok : Result Found NoMemory = Ok (InArena c) in
    IsBacked m.fast x.arena x.outside.port no_chunk → Finds m t (searched t n x.arena) x ok y → IsBacked m.fast y.arena y.outside.port (one_chunk c)
found_hand m t n c x y backed w =
    backed_less (backed_with m.fast (full m) x y x.outside.port y.outside.port no_chunk (one_chunk c) no_chunk (λ e. refl) (λ e. refl) (backed_less backed (λ e. omega arith)) w.keeps) (λ e. omega arith)

-- the block in a mapping
pub mapped_fits : (align nb : ℕ) (c : Chunk) → IsAlignment align → nb % 16 ≡ 0 → IsEnoughMapped (size_with_lead align nb) c → FitsAligned align nb (InMapping c)
mapped_fits align nb c i whole e =
    let place : c.at % 16 ≡ 0 = omega (arith, e.page) in
    let l : IsLead align c.at (lead_of align c.at) = lead_is align c.at i place in
    let le : lead_of align c.at + nb + 32 ≤ c.size = aligned_part_fits align nb c.at c.size i place whole (omega (arith, e.enough.room)) in
    record {
      block = record {
        enough = record { chunk = (omega (arith, le), omega (arith, le, l.whole, e.enough.chunk.1)); room = omega (arith, le) };
        aligned = l.aligned;
      };
      end = e.end;
    }
