-- The places of one order of calls keep the laws of places (this project's own). The proofs stand here, since `serial_laws` is
-- cited by a ghost member of `Serial`.
use Rattle.std.proofs.Common.{◌≡◌, ℕ, ◌+◌, ◌-◌, ◌*◌, ◌^◌, ◌<◌, ◌≤◌, Bool, true, false, ◌&&◌, cond, Option, Some, None, inl, inr, IsTrue, refl, sym, ap, ◌∙◌, subst, arith}
use Rattle.std.specs.Prelude.{nat_eq, is_some}
use Rattle.std.proofs.lemmas.Bool.{cases_lt}
use Rattle.chunk_tags.specs.BinOrder.{same_chunk}
use Rattle.chunk_tags.specs.declared.block.Block.{Block}
use Rattle.chunk_tags.specs.declared.tiles.Chunk.{Chunk}
use Rattle.address_space.specs.Spaces.{map_length, map_start}
use Rattle.fast_bins.specs.PlainBins.{plain_fast}
use Rattle.mapped_chunks.specs.Mappings.{mapping_bytes}
use Rattle.mapped_chunks.specs.PlainDials.{MayMap, MayUnmap, MayRemap, plain_dials}
use Rattle.mapped_chunks.specs.declared.plain.PlainDials.{PlainDials}
use Rattle.mapped_chunks.proofs.PlainSteady.{plain_steady}
use Rattle.arena_rules.proofs.Bins.{once_self}
use Rattle.consolidate_trim.proofs.HoldSteps.{block_is}
use Rattle.arena_holds.specs.Places.{KeptArena, Hands, both_of, as_chunk_of, as_mapped, as_mapped_bytes, Covers, IsLent, MayLengthen, PlaceLaws}
use Rattle.serial_places.specs.Joined.{joined_fast, joined_dials}
use Rattle.serial_places.specs.Playing.{PlainPort}
use Rattle.serial_places.specs.SerialWays.{SerialState, KeptSlot, IsKept, Serves, Notes, LentSlot, DialsOut, slot_in, stock_in, used_in, is_there, mapped_in_words, state_ways}

-- ---- what is given out

pub covers_same : (exact : Bool) (n m k : ℕ) → m ≡ n → Covers exact n k → Covers exact m k
covers_same true n m k e c = e ∙ c
covers_same false n m k e c = omega (arith, e, c)

pub serves_same : (exact : Bool) (st : SerialState) (hands others : Hands) → ((weigh : Block → ℕ) → others weigh ≡ hands weigh) → Serves exact st hands → Serves exact st others
serves_same exact st hands others e s = record {
  chunks = λ n c. covers_same exact _ _ _ (omega (arith, e (as_chunk_of n c))) (s.chunks n c);
  count = covers_same exact _ _ _ (omega (arith, e as_mapped)) s.count;
  bytes = covers_same exact _ _ _ (omega (arith, e as_mapped_bytes)) s.bytes;
}

serves_fewer : (st : SerialState) (hands some : Hands) → ((weigh : Block → ℕ) → some weigh ≤ hands weigh) → Serves false st hands → Serves false st some
serves_fewer st hands some e s = record {
  chunks = λ n c. omega (arith, e (as_chunk_of n c), s.chunks n c);
  count = omega (arith, e as_mapped, s.count);
  bytes = omega (arith, e as_mapped_bytes, s.bytes);
}

-- ---- an arena that was lent

may_map : (st : SerialState) (d : PlainDials) (own others len : ℕ) → d ≡ st.dials → Notes st own others → own + len ≤ map_length → MayMap d.state len
may_map st d own others len same n le = record {
  count = omega (arith, n.count, n.windows, le, ap (λ (x : PlainDials). x.state.mapped) same);
  bytes = omega (arith, n.bytes, n.windows, le, ap (λ (x : PlainDials). x.state.bytes) same);
}

lends : (p q : SerialState) (n : ℕ) (port : PlainPort) (k : KeptArena) → LentSlot p n port (Some k) q →
    IsLent state_ways (joined_fast plain_fast) (joined_dials plain_dials) p n port k
lends p q n port k h =
    let is : IsKept p.tunables n k = h.kept.kept in
    record {
      number = is.number;
      sound = is.sound;
      placed = is.placed;
      heaps = is.heaps;
      replays = is.replays;
      backed = λ hands s e. omega (arith, s.chunks n e, ap (λ (o : Option KeptSlot). stock_in o e) h.slot, ap (λ (o : Option KeptSlot). used_in o e) h.slot);
      maps = λ own others len notes le. may_map p port.dials own others len h.words notes le;
    }

-- ---- blocks

-- the chunk of a block
abbrev pub chunk_in : Block → Chunk
chunk_in b = record { at = b.addr; size = b.size }

-- a block of an arena is its chunk there
pub own_chunk : (b : Block) (a : ℕ) → b.arena ≡ Some a → as_chunk_of a (chunk_in b) b ≡ 1
own_chunk b a e = ap {B = ℕ} (λ (o : Option ℕ). cond (same_chunk (chunk_in b) (chunk_in b) && (elim o [ None ↦ false | Some n ↦ nat_eq n a ])) 1 0) e
    ∙ block_is a (chunk_in b) (chunk_in b) ∙ once_self (chunk_in b)

-- an arena of which a chunk is used is there
there_by_use : (o : Option KeptSlot) (e : Chunk) → 0 < used_in o e → IsTrue (is_some o)
there_by_use None e h = absurd (omega arith)
there_by_use (Some s) e h = refl

pub known : (p : SerialState) (b : Block) (others : Hands) (a : ℕ) → Serves false p (both_of (λ weigh. weigh b) others) → b.arena ≡ Some a → IsTrue (is_there p a)
known p b others a s e = there_by_use (slot_in p.slots a) (chunk_in b) (omega (arith, s.chunks a (chunk_in b), own_chunk b a e))

mapped_one : (b : Block) → b.arena ≡ None → as_mapped b ≡ 1
mapped_one b e = ap (λ (o : Option ℕ). cond (is_some o) 0 1) e

mapped_all : (b : Block) → b.arena ≡ None → as_mapped_bytes b ≡ mapping_bytes b
mapped_all b e = ap (λ (o : Option ℕ). cond (is_some o) 0 (mapping_bytes b)) e

unmaps : (p q : SerialState) (d : PlainDials) (b : Block) (others : Hands) → DialsOut p d q → Serves false p (both_of (λ weigh. weigh b) others) → b.arena ≡ None →
    MayUnmap d.state (mapping_bytes b)
unmaps p q d b others h s e = record {
  count = omega (arith, s.count, mapped_one b e, ap (λ (x : PlainDials). x.state.mapped) h.told);
  bytes = omega (arith, s.bytes, mapped_all b e, ap (λ (x : PlainDials). x.state.bytes) h.told);
}

-- the bytes that are counted then pass no 64 bits
remapped_bytes : (old_len len bytes own more : ℕ) → old_len ≤ bytes → bytes ≤ own + more → more ≤ 63 * map_length → map_start 0 + own < 2 ^ 64 → (old_len < len → own + len ≤ map_length) →
    bytes - old_len + len < 2 ^ 64
remapped_bytes old_len len bytes own more counted most windows below fits = elim (cases_lt old_len len) [
  | inl lt ↦ omega (arith, most, windows, fits lt)
  | inr ge ↦ omega (arith, counted, most, windows, below, ge)
]

remaps : (p q : SerialState) (d : PlainDials) (b : Block) (others : Hands) (own more len : ℕ) → DialsOut p d q → Serves false p (both_of (λ weigh. weigh b) others) → b.arena ≡ None →
    Notes p own more → MayLengthen b own len → MayRemap d.state (mapping_bytes b) len
remaps p q d b others own more len h s e n may =
    let all : d.state.bytes ≡ p.dials.state.bytes = ap (λ (x : PlainDials). x.state.bytes) h.told in
    let most : d.state.bytes ≤ own + more = omega (arith, n.bytes, all) in
    let counted : mapping_bytes b ≤ d.state.bytes = omega (arith, s.bytes, mapped_all b e, all) in
    record { counted = counted; bytes = remapped_bytes (mapping_bytes b) len d.state.bytes own more counted most n.windows may.window may.fits }

-- ---- the laws

pub serial_laws : PlaceLaws state_ways (joined_fast plain_fast) (joined_dials plain_dials) plain_dials
serial_laws = record {
  apart = record {
    stock = λ p q s h e. ap (λ b. plain_fast.stock b e) h.1;
    room = λ p q s h k r. subst (λ b. IsTrue (plain_fast.room b k)) (sym h.1) r;
    steps = λ p q s d h may. subst (λ x. plain_dials.allows x d) (sym h.1) may;
    idles = λ p q d h may. subst (λ x. plain_dials.allows x d) (sym h.1) may;
    reads = λ p q w n d h may. plain_steady.reads p.dials q.dials w n d h.0 may;
  };
  shows = record {
    maps = λ p q len h. ap (λ (d : PlainDials). mapped_in_words (record p { dials = d })) h.0.1;
    reads = λ p q w n h. ap (λ (d : PlainDials). mapped_in_words (record p { dials = d })) h.0.1;
    steps = λ p q s h. ap (λ (d : PlainDials). mapped_in_words (record p { dials = d })) h.1;
    idles = λ p q h. ap (λ (d : PlainDials). mapped_in_words (record p { dials = d })) h.1;
  };
  steady = plain_steady;
  same = serves_same;
  fewer = serves_fewer;
  lends = lends;
  home = λ p w. w.main;
  known = known;
  owes = λ p n o. (o.other, o.below);
  books = λ p q change book h. h.sound;
  maps = λ p q d own others len h n le. may_map p d own others len h.told n le;
  unmaps = unmaps;
  remaps = remaps;
}
