-- Places over a pass of a board keep the laws of places, and what an unlock keeps (this project's own).
use Rattle.std.proofs.Common.{◌≡◌, ℕ, ◌+◌, ◌<◌, ◌≤◌, ◌++◌, Bool, true, false, ◌&&◌, ◌||◌, cond, List, [], ◌∷◌, Option, Some, None, inl, inr, IsTrue, map, refl, sym, ap, ◌∙◌, subst, arith}
use Rattle.std.specs.Prelude.{IsSome, nat_eq, nat_le, not, is_some, sum_by, option_map}
use Rattle.std.specs.List.{filter, list_any, AllByRecursion}
use Rattle.std.proofs.lemmas.Bool.{cases_eq, eq-eqb, le-leb}
use Rattle.std.proofs.lemmas.List.Sums.{sum_by-cons}
use Rattle.chunk_tags.specs.BinOrder.{same_chunk}
use Rattle.chunk_tags.specs.declared.block.Block.{Block}
use Rattle.chunk_tags.specs.declared.tiles.Chunk.{Chunk}
use Rattle.chunk_tags.specs.declared.tunables.Tunables.{Tunables}
use Rattle.chunk_tags.specs.Dials.{Dial, MmapThreshold}
use Rattle.address_space.specs.Spaces.{map_length}
use Rattle.fast_bins.specs.FastPorts.{Fast, FastStep}
use Rattle.mapped_chunks.specs.DialPorts.{Dialled, DialStep, Reads, Raises, Maps, Unmaps, Remaps}
use Rattle.mapped_chunks.specs.Mappings.{mapping_bytes, IsSteady, AllSteps, MayRaise}
use Rattle.arena_rules.specs.PlainArena.{times_used}
use Rattle.arena_rules.proofs.Bins.{once_self}
use Rattle.consolidate_trim.specs.Outside.{AreApart}
use Rattle.consolidate_trim.proofs.HoldSteps.{block_is}
use Rattle.arena_core.specs.Journal.{Recorded}
use Rattle.arena_core.specs.declared.journal.Who.{Who}
use Rattle.arena_holds.specs.Returning.{AreOf}
use Rattle.arena_core.specs.Shown.{counted_in}
use Rattle.arena_choice.specs.Numbers.{has, without, with_second, list_with}
use Rattle.arena_choice.specs.Books.{BookValue, attached_to}
use Rattle.arena_choice.specs.Choices.{undone_book, attached_book, detached_book, left_book, CanAttach, IsUsable, choice_of, choice_from, book_from, after_choice, own_arena, newest_free, with_limit_settled, new_number, with_new_number, has_number_left, start_of}
use Rattle.arena_choice.specs.Books as books
use Rattle.arena_choice.specs.declared.choice.Choice.{Choice}
use Rattle.arena_choice.specs.declared.choice.Choice.TheVariants.{Attached, Free, New, Reuse}
use Rattle.arena_choice.proofs.BookLaws.{sound_limit, sound_with_new_number}
use Rattle.arena_choice.proofs.NumberLaws.{has_first, has_more, has-with_second, gone, was_there}
use Rattle.arena_holds.specs.Places.{KeptArena, PlaceLaws, IsLent, MayLengthen, Hands, both_of, as_chunk_of, as_mapped, as_mapped_bytes, Covers}
use Rattle.arena_holds.specs.Returning as port
use Rattle.arena_holds.specs.Returning.{PortWalks, IsReturn, IsUnlocked, IsAccounted, IsNoted, AreReturned, IsSettled, IsUnseen, IsAside, IsUndone, IsAllowed, IsBooked, IsTaken, found_in_tray, IsChosen, IsNew, IsAdded, maps_in, unmaps_in}
use Rattle.arena_holds.specs.BookChanges.{BookChange, Chooses, book_after, attached_where_free}
use Rattle.arena_holds.specs.declared.trays.Empty.{Empty}
use Rattle.block_names.specs.Blocks.{IsHeld}
use Rattle.std.specs.Prelude.{Result, Ok, Err, IfOk, IfErr}
use Rattle.board_types.specs.Views.{Own, OwnChunk, Added}
use Rattle.board_types.specs.Flat.{FlatView}
use Rattle.board_calls.specs.Passes.{in_mine, is_known, is_in, in_lists, owns_number, added_to, LineFits, after_word, MayWord, HeldWord, WordTells, AfterWord, IsWithin}
use Rattle.board_calls.specs.Holds.{HoldView, Locks, IsHome, AfterFast, AfterHeldWord, Returns, Unlocked, HasBlock, GaveBlock, GotBlock, IsBookOf, after_book, own_after, own_stored, journal_in, used_in}
use Rattle.thread_places.specs.BoardWays.{state_at, BoardState, Here, Owns, Notes, there_in, listed_in, tunables_in, kept_number, StoredOf, LentOf, GaveOf, WordsOut, shown_of, board_ways}

-- what is assumed of the ports of a board
pub record BoardFacts {H D : Type 0} (seen : H → HoldView) (fast : Fast H) (dials : Dialled H) (words : D → FlatView) (word : Dialled D) : Type 0 where
  pub fast_steps : (h i : H) (s : FastStep) → fast.step h s i → AfterFast s (seen h) (seen i)
  pub fast_idles : (h i : H) → fast.idle h i → seen i ≡ seen h
  pub held_words : (h i : H) (s : DialStep) → dials.step h s i → AfterHeldWord s (seen h) (seen i)
  pub may_map : (h : H) (len : ℕ) → (seen h).view.given + len ≤ map_length → (seen h).view.all_mapped ≤ map_length → dials.allows h (Maps len)
  pub apart : AreApart fast dials
  pub word_steps : (d e : D) (s : DialStep) → word.step d s e → AfterWord s (words d) (words e)
  pub may_words : (d : D) (s : DialStep) → MayWord s (words d) → word.allows d s
  pub are_words : (d : D) (s : DialStep) → word.allows d s → MayWord s (words d)

-- what is so of passes
abbrev pub AreWithin : {P : Type 0} → (P → BoardState) → Type 0
AreWithin {P} state = (p : P) (v : FlatView) → (state p).here ≡ Some v → IsWithin v

-- ---- lines

fits_same : (who : Who) (v w : FlatView) → w.number ≡ v.number → w.added ≡ v.added → LineFits who v → LineFits who w
fits_same who v w number added f = record { thread = f.thread ∙ sym number; lines = subst (AllByRecursion (λ (x : Added). x.entry.who.line ≤ who.line)) (sym added) f.lines }

all_behind : (P : Added → Type 0) (xs ys : List Added) → AllByRecursion P xs → AllByRecursion P ys → AllByRecursion P (xs ++ ys)
all_behind P [] ys a b = b
all_behind P (x ∷ xs) ys a b = (a.0, all_behind P xs ys a.1 b)

added_fit : (a : ℕ) (who : Who) (before entries : List Recorded) → AreOf who entries → AllByRecursion (λ (x : Added). x.entry.who.line ≤ who.line) (added_to a before entries)
added_fit a who before [] are = tt
added_fit a who before (e ∷ es) are = (omega (arith, ap (λ (w : Who). w.line) are.0), added_fit a who (before ++ e ∷ []) es are.1)

-- entries of the line were added
fits_more : (who : Who) (v w : FlatView) (a : ℕ) (before entries : List Recorded) → w.number ≡ v.number → w.added ≡ v.added ++ added_to a before entries → AreOf who entries → LineFits who v → LineFits who w
fits_more who v w a before entries number added are f = record {
  thread = f.thread ∙ sym number;
  lines = subst (AllByRecursion (λ (x : Added). x.entry.who.line ≤ who.line)) (sym added) (all_behind _ v.added _ f.lines (added_fit a who before entries are));
}

pub same_some : {A : Type 0} {o : Option A} (x y : A) → o ≡ Some x → o ≡ Some y → x ≡ y
same_some x y e f = cc

-- ---- what is given out

covers_same : (exact : Bool) (n m k : ℕ) → m ≡ n → Covers exact n k → Covers exact m k
covers_same true n m k e c = e ∙ c
covers_same false n m k e c = omega (arith, e, c)

owns_same : (exact : Bool) (v : FlatView) (hands others : Hands) → ((weigh : Block → ℕ) → others weigh ≡ hands weigh) → Owns exact hands v → Owns exact others v
owns_same exact v hands others e o = record {
  chunks = λ n c. covers_same exact _ _ _ (e (as_chunk_of n c)) (o.chunks n c);
  count = covers_same exact _ _ _ (e as_mapped) o.count;
  bytes = covers_same exact _ _ _ (e as_mapped_bytes) o.bytes;
}

owns_fewer : (v : FlatView) (hands some : Hands) → ((weigh : Block → ℕ) → some weigh ≤ hands weigh) → Owns false hands v → Owns false some v
owns_fewer v hands some e o = record {
  chunks = λ n c. omega (arith, e (as_chunk_of n c), o.chunks n c);
  count = omega (arith, e as_mapped, o.count);
  bytes = omega (arith, e as_mapped_bytes, o.bytes);
}

-- ---- a lent arena

lends : {P H D : Type 0} (state : P → BoardState) (seen : H → HoldView) (fast : Fast H) (dials : Dialled H) (words : D → FlatView) (word : Dialled D) → BoardFacts seen fast dials words word →
    (p q : P) (a : ℕ) (h : H) (k : KeptArena) → LentOf (state p) a (seen h) (fast.stock h) (Some k) (state q) → IsLent (board_ways state seen fast words) fast dials p a h k
lends state seen fast dials words word f p q a h k l =
    let home : IsHome (tunables_in (state p).here) a k = subst (λ (o : Option FlatView). IsHome (tunables_in o) a k) (sym l.at) (l.locks.home k l.was) in
    record {
      number = home.number;
      sound = home.sound;
      placed = home.placed;
      heaps = home.heaps;
      replays = home.replays;
      backed = λ hands s e.
          let same : s.view ≡ l.view = same_some s.view l.view s.at l.at in
          omega (arith, l.locks.backed e, ap (used_in e) l.was, s.is.chunks a e, ap (λ (v : FlatView). in_mine v (as_chunk_of a e)) same);
      maps = λ own others len n le.
          let same : n.view ≡ l.view = same_some n.view l.view n.at l.at in
          f.may_map h len (omega (arith, le, n.is.given, ap (λ (v : FlatView). v.given) same, ap (λ (v : FlatView). v.given) l.locks.view))
          (omega (arith, le, n.is.count, ap (λ (v : FlatView). v.all_mapped) same, ap (λ (v : FlatView). v.all_mapped) l.locks.view));
    }

-- ---- blocks

abbrev chunk_in : Block → Chunk
chunk_in b = record { at = b.addr; size = b.size }

own_chunk : (b : Block) (a : ℕ) → b.arena ≡ Some a → as_chunk_of a (chunk_in b) b ≡ 1
own_chunk b a e = ap {B = ℕ} (λ (o : Option ℕ). cond (same_chunk (chunk_in b) (chunk_in b) && (elim o [ None ↦ false | Some n ↦ nat_eq n a ])) 1 0) e
    ∙ block_is a (chunk_in b) (chunk_in b) ∙ once_self (chunk_in b)

or_more : (a b : Bool) → b ≡ true → (a || b) ≡ true
or_more true b e = refl
or_more false b e = e

or_less : (a b : Bool) → a ≡ true → (a || b) ≡ true
or_less a b e = ap (λ (c : Bool). c || b) e

and_none : (a : Bool) → (a && false) ≡ false
and_none true = refl
and_none false = refl

-- a block that isn't of an arena weighs nothing as its chunk
not_in : (n : ℕ) (e : Chunk) (b : Block) → is_in n b.arena ≡ false → as_chunk_of n e b ≡ 0
not_in n e b is =
    let cases : (o : Option ℕ) → b.arena ≡ o → is_in n o ≡ false → as_chunk_of n e b ≡ 0 = elim [
      | None ↦ λ at no. ap {B = ℕ} (λ (o : Option ℕ). cond (same_chunk e (chunk_in b) && (elim o [ None ↦ false | Some a ↦ nat_eq a n ])) 1 0) at
          ∙ ap {B = ℕ} (λ (x : Bool). cond x 1 0) (and_none (same_chunk e (chunk_in b)))
      | Some a ↦ λ at no. ap {B = ℕ} (λ (o : Option ℕ). cond (same_chunk e (chunk_in b) && (elim o [ None ↦ false | Some a ↦ nat_eq a n ])) 1 0) at
          ∙ (ap {B = ℕ} (λ (y : Bool). cond (same_chunk e (chunk_in b) && y) 1 0) no ∙ ap {B = ℕ} (λ (x : Bool). cond x 1 0) (and_none (same_chunk e (chunk_in b))))
    ] in
    cases b.arena refl is

-- the arena of a chunk that a pass has is that of one of its blocks
some_in : (n : ℕ) (e : Chunk) (bs : List Block) → 0 < sum_by (as_chunk_of n e) bs → list_any (λ (b : Block). is_in n b.arena) bs ≡ true
some_in n e [] most = absurd (omega (arith, most))
some_in n e (b ∷ bs) most =
    let go : (c : Bool) → is_in n b.arena ≡ c → (is_in n b.arena || list_any (λ (b : Block). is_in n b.arena) bs) ≡ true = elim [
      | true ↦ λ is. or_less (is_in n b.arena) (list_any (λ (b : Block). is_in n b.arena) bs) is
      | false ↦ λ is.
          let split : 0 < as_chunk_of n e b + sum_by (as_chunk_of n e) bs = subst (λ (k : ℕ). 0 < k) (sum_by-cons (as_chunk_of n e) b bs) most in
          let rest : 0 < 0 + sum_by (as_chunk_of n e) bs = subst (λ (k : ℕ). 0 < k + sum_by (as_chunk_of n e) bs) (not_in n e b is) split in
          or_more (is_in n b.arena) (list_any (λ (b : Block). is_in n b.arena) bs) (some_in n e bs (omega (arith, rest)))
    ] in
    go (is_in n b.arena) refl

pub mine_known : (v : FlatView) (n : ℕ) (e : Chunk) → 0 < in_mine v (as_chunk_of n e) → IsTrue (is_known v n)
mine_known v n e some =
    let mine : Bool = list_any (λ (b : Block). is_in n b.arena) v.mine in
    let added : Bool = list_any (λ (x : Added). nat_eq x.arena n) v.added in
    or_more (nat_eq n 0) (in_lists n v || (mine || added)) (or_more (in_lists n v) (mine || added) (or_less mine added (some_in n e v.mine some)))

known_here : {P : Type 0} (state : P → BoardState) (p : P) (b : Block) (others : Hands) (a : ℕ) → Here (state p) (Owns false (both_of (λ weigh. weigh b) others)) → b.arena ≡ Some a → IsTrue (there_in (state p).here a)
known_here state p b others a s e =
    subst (λ (o : Option FlatView). IsTrue (there_in o a)) (sym s.at) (mine_known s.view a (chunk_in b) (omega (arith, s.is.chunks a (chunk_in b), own_chunk b a e)))

-- ---- the words are steady

same_words : {H D : Type 0} (seen : H → HoldView) (fast : Fast H) (dials : Dialled H) (words : D → FlatView) (word : Dialled D) → BoardFacts seen fast dials words word →
    (d e : D) (s : DialStep) → (MayWord s (words d) → MayWord s (words e)) → word.allows d s → word.allows e s
same_words seen fast dials words word f d e s go may = f.may_words e s (go (f.are_words d s may))

read_keeps : (v : FlatView) (w : Dial) (n : ℕ) (s : DialStep) → MayWord s v → MayWord s (after_word (Reads w n) v)
read_keeps v w n (Reads u m) may = may
read_keeps v w n (Raises size) may = may
read_keeps v w n (Maps len) may = may
read_keeps v w n (Unmaps len) may = may
read_keeps v w n (Remaps old_len new_len) may = may

-- a size above a threshold that was read may be one
above_read : (v : FlatView) (n size : ℕ) → WordTells (Reads MmapThreshold n) v → MayRaise n size → MayWord (Raises size) v
above_read v n size (inl is) may = (may.whole, (omega (arith, may.above, is), omega (arith, may.limit)))
above_read v n size (inr is) may = (may.whole, (omega (arith, may.above, may.whole, is.0, is.1), omega (arith, may.limit)))

steady_words : {H D : Type 0} (seen : H → HoldView) (fast : Fast H) (dials : Dialled H) (words : D → FlatView) (word : Dialled D) → BoardFacts seen fast dials words word → IsSteady word
steady_words seen fast dials words word f = record {
  reads = λ p q w n s step may.
      let a : AfterWord (Reads w n) (words p) (words q) = f.word_steps p q (Reads w n) step in
      same_words seen fast dials words word f p q s (λ m. subst (MayWord s) (sym a.is) (read_keeps (words p) w n s m)) may;
  raises = λ p q size len step may.
      let a : AfterWord (Raises size) (words p) (words q) = f.word_steps p q (Raises size) step in
      same_words seen fast dials words word f p q (Unmaps len) (λ m. subst (MayWord (Unmaps len)) (sym a.is) m) may;
  above = λ p q n size step may.
      let a : AfterWord (Reads MmapThreshold n) (words p) (words q) = f.word_steps p q (Reads MmapThreshold n) step in
      f.may_words q (Raises size) (subst (MayWord (Raises size)) (sym a.is) (above_read (words p) n size a.tells may));
}

mapped_one : (b : Block) → b.arena ≡ None → as_mapped b ≡ 1
mapped_one b e = ap (λ (o : Option ℕ). cond (is_some o) 0 1) e

mapped_all : (b : Block) → b.arena ≡ None → as_mapped_bytes b ≡ mapping_bytes b
mapped_all b e = ap (λ (o : Option ℕ). cond (is_some o) 0 (mapping_bytes b)) e

-- ---- the laws

shows_maps : {H : Type 0} (seen : H → HoldView) (h i : H) (len : ℕ) → AfterHeldWord (Maps len) (seen h) (seen i) → shown_of (seen i) ≡ counted_in len (shown_of (seen h))
shows_maps seen h i len a = ap shown_of a.is

shows_reads : {H : Type 0} (seen : H → HoldView) (h i : H) (w : Dial) (n : ℕ) → AfterHeldWord (Reads w n) (seen h) (seen i) → shown_of (seen i) ≡ shown_of (seen h)
shows_reads seen h i w n a = ap shown_of a.is

shows_steps : {H : Type 0} (seen : H → HoldView) (h i : H) (s : FastStep) → AfterFast s (seen h) (seen i) → shown_of (seen i) ≡ shown_of (seen h)
shows_steps seen h i s a = ap shown_of a.rest

unmaps : (b : Block) (others : Hands) (v : FlatView) → Owns false (both_of (λ weigh. weigh b) others) v → b.arena ≡ None → MayWord (Unmaps (mapping_bytes b)) v
unmaps b others v o e = (omega (arith, o.count, mapped_one b e), omega (arith, o.bytes, mapped_all b e))

remaps : (b : Block) (others : Hands) (own len : ℕ) (v : FlatView) → Owns false (both_of (λ weigh. weigh b) others) v → b.arena ≡ None → v.given ≤ own → MayLengthen b own len → MayWord (Remaps (mapping_bytes b) len) v
remaps b others own len v o e given may = (omega (arith, o.bytes, mapped_all b e), λ lt. omega (arith, may.fits lt, given))

pub board_laws : {P H D : Type 0} (state : P → BoardState) (seen : H → HoldView) (fast : Fast H) (dials : Dialled H) (words : D → FlatView) (word : Dialled D) → BoardFacts seen fast dials words word → AreWithin state →
    PlaceLaws (board_ways state seen fast words) fast dials word
board_laws state seen fast dials words word f within = record {
  apart = f.apart;
  shows = record {
    maps = λ p q len h. shows_maps seen p q len (f.held_words p q (Maps len) h);
    reads = λ p q w n h. shows_reads seen p q w n (f.held_words p q (Reads w n) h);
    steps = λ p q s h. shows_steps seen p q s (f.fast_steps p q s h);
    idles = λ p q h. ap shown_of (f.fast_idles p q h);
  };
  steady = steady_words seen fast dials words word f;
  same = λ exact p hands others e s. record { view = s.view; at = s.at; is = owns_same exact s.view hands others e s.is };
  fewer = λ p hands some e s. record { view = s.view; at = s.at; is = owns_fewer s.view hands some e s.is };
  lends = lends state seen fast dials words word f;
  home = λ p w. subst (λ (o : Option FlatView). IsTrue (there_in o 0)) (sym w.at) refl;
  known = known_here state;
  owes = λ p n o.
      let w : IsWithin o.view = within p o.view o.at in
      let b = w.own n (subst (λ (os : List Own). IsTrue (owns_number n os)) (sym o.is) (or_less (nat_eq n n) false (eq-eqb n n refl))) in
      (b.0, omega (arith, b.1, w.most));
  books = λ p q change book h. h.found.sound;
  maps = λ p q d own others len l n le. f.may_words d (Maps len) (omega (arith, le, n.is.given, ap (λ (v : FlatView). v.given) (same_some n.view (words d) n.at l.told)), omega (arith, le, n.is.count, ap (λ (v : FlatView). v.all_mapped) (same_some n.view (words d) n.at l.told)));
  unmaps = λ p q d b others l s e. f.may_words d (Unmaps (mapping_bytes b)) (subst (MayWord (Unmaps (mapping_bytes b))) (same_some s.view (words d) s.at l.told) (unmaps b others s.view s.is e));
  remaps = λ p q d b others own more len l s e n may.
      f.may_words d (Remaps (mapping_bytes b) len) (subst (MayWord (Remaps (mapping_bytes b) len)) (same_some s.view (words d) s.at l.told)
      (remaps b others own len s.view s.is e (omega (arith, n.is.given, ap (λ (v : FlatView). v.given) (same_some n.view s.view n.at s.at))) may));
}

-- ---- a hold, later

-- What a hold leaves of its view: the pass has its blocks of other arenas still, and as many mappings more are counted as were
-- made, with as many bytes of its window given.
pub record Later (h i : HoldView) : Type 0 where
  pub arena : i.arena ≡ h.arena
  pub kept : i.kept ≡ h.kept
  pub tunables : i.view.tunables ≡ h.view.tunables
  pub number : i.view.number ≡ h.view.number
  pub own : i.view.own ≡ h.view.own
  pub lists : i.view.lists ≡ h.view.lists
  pub added : i.view.added ≡ h.view.added
  pub posts : i.view.posts ≡ h.view.posts
  pub takes : i.view.takes ≡ h.view.takes
  pub found : i.view.found ≡ h.view.found
  pub others : (n : ℕ) (e : Chunk) → (n ≡ h.arena → ⊥) → in_mine i.view (as_chunk_of n e) ≡ in_mine h.view (as_chunk_of n e)
  pub count : ℕ
  pub len : ℕ
  pub mapped : i.view.mapped ≡ h.view.mapped + count
  pub bytes : i.view.bytes ≡ h.view.bytes + len
  pub given : i.view.given ≡ h.view.given + len
  pub all_mapped : i.view.all_mapped ≡ h.view.all_mapped + count

later_same : (h : HoldView) → Later h h
later_same h = record { arena = refl; kept = refl; tunables = refl; number = refl; own = refl; lists = refl; added = refl; posts = refl; takes = refl; found = refl; others = λ n e ne. refl; count = 0; len = 0; mapped = omega arith; bytes = omega arith; given = omega arith; all_mapped = omega arith }

later_then : (h i j : HoldView) → Later h i → Later i j → Later h j
later_then h i j a b = record {
  arena = b.arena ∙ a.arena;
  kept = b.kept ∙ a.kept;
  tunables = b.tunables ∙ a.tunables;
  number = b.number ∙ a.number;
  own = b.own ∙ a.own;
  lists = b.lists ∙ a.lists;
  added = b.added ∙ a.added;
  posts = b.posts ∙ a.posts;
  takes = b.takes ∙ a.takes;
  found = b.found ∙ a.found;
  others = λ n e ne. b.others n e (λ is. ne (is ∙ a.arena)) ∙ a.others n e ne;
  count = a.count + b.count;
  len = a.len + b.len;
  mapped = omega (arith, a.mapped, b.mapped);
  bytes = omega (arith, a.bytes, b.bytes);
  given = omega (arith, a.given, b.given);
  all_mapped = omega (arith, a.all_mapped, b.all_mapped);
}

later_fast : (h i : HoldView) (s : FastStep) → AfterFast s h i → Later h i
later_fast h i s a = record {
  arena = ap (λ (x : HoldView). x.arena) a.rest;
  kept = ap (λ (x : HoldView). x.kept) a.rest;
  tunables = ap (λ (x : HoldView). x.view.tunables) a.rest;
  number = ap (λ (x : HoldView). x.view.number) a.rest;
  own = ap (λ (x : HoldView). x.view.own) a.rest;
  lists = ap (λ (x : HoldView). x.view.lists) a.rest;
  added = ap (λ (x : HoldView). x.view.added) a.rest;
  posts = ap (λ (x : HoldView). x.view.posts) a.rest;
  takes = ap (λ (x : HoldView). x.view.takes) a.rest;
  found = ap (λ (x : HoldView). x.view.found) a.rest;
  others = a.others;
  count = 0;
  len = 0;
  mapped = omega (arith, ap (λ (x : HoldView). x.view.mapped) a.rest);
  bytes = omega (arith, ap (λ (x : HoldView). x.view.bytes) a.rest);
  given = omega (arith, ap (λ (x : HoldView). x.view.given) a.rest);
  all_mapped = omega (arith, ap (λ (x : HoldView). x.view.all_mapped) a.rest);
}

later_word_is : (h : HoldView) (s : DialStep) → HeldWord s → Later h (record h { view = after_word s h.view })
later_word_is h (Reads w n) may = record { arena = refl; kept = refl; tunables = refl; number = refl; own = refl; lists = refl; added = refl; posts = refl; takes = refl; found = refl; others = λ n e ne. refl; count = 0; len = 0; mapped = omega arith; bytes = omega arith; given = omega arith; all_mapped = omega arith }
later_word_is h (Raises size) may = record { arena = refl; kept = refl; tunables = refl; number = refl; own = refl; lists = refl; added = refl; posts = refl; takes = refl; found = refl; others = λ n e ne. refl; count = 0; len = 0; mapped = omega arith; bytes = omega arith; given = omega arith; all_mapped = omega arith }
later_word_is h (Maps len) may = record { arena = refl; kept = refl; tunables = refl; number = refl; own = refl; lists = refl; added = refl; posts = refl; takes = refl; found = refl; others = λ n e ne. refl; count = 1; len = len; mapped = refl; bytes = refl; given = refl; all_mapped = refl }
later_word_is h (Unmaps len) may = absurd may
later_word_is h (Remaps old_len new_len) may = absurd may

later_word : (h i : HoldView) (s : DialStep) → AfterHeldWord s h i → Later h i
later_word h i s a = subst (λ (x : HoldView). Later h x) (sym a.is) (later_word_is h s a.may)

pub later : {H D : Type 0} (seen : H → HoldView) (fast : Fast H) (dials : Dialled H) (words : D → FlatView) (word : Dialled D) → BoardFacts seen fast dials words word → {h i : H} → PortWalks fast dials h i → Later (seen h) (seen i)
later seen fast dials words word f {h} port.port_stays = later_same (seen h)
later seen fast dials words word f (port.port_steps {h = h} {i = i} {j = j} {s = s} did rest) =
    later_then (seen h) (seen i) (seen j) (later_fast (seen h) (seen i) s (f.fast_steps h i s did.step)) (later seen fast dials words word f rest)
later seen fast dials words word f (port.word_steps {h = h} {i = i} {j = j} {s = s} step rest) =
    later_then (seen h) (seen i) (seen j) (later_word (seen h) (seen i) s (f.held_words h i s step)) (later seen fast dials words word f rest)
later seen fast dials words word f (port.port_rests {h = h} {i = i} {j = j} idles rest) =
    later_then (seen h) (seen i) (seen j) (subst (λ (x : HoldView). Later (seen h) x) (sym (f.fast_idles h i idles.idle)) (later_same (seen h))) (later seen fast dials words word f rest)

-- ---- what an unlock keeps

account_chunks : (exact : Bool) (used now stock left given got others mine mine' : ℕ) → Covers exact (used + (left + got)) (now + (stock + given)) → Covers exact (given + others) mine → stock + mine ≡ used → mine' + left ≡ now →
    Covers exact (got + others) mine'
account_chunks true used now stock left given got others mine mine' a s e f = omega (arith, a, s, e, f)
account_chunks false used now stock left given got others mine mine' a s e f = omega (arith, a, s, e, f)

account_others : (exact : Bool) (given got others mine mine' : ℕ) → Covers exact got given → Covers exact (given + others) mine → mine' ≡ mine → Covers exact (got + others) mine'
account_others true given got others mine mine' a s e = omega (arith, a, s, e)
account_others false given got others mine mine' a s e = omega (arith, a, s, e)

account_mapped : (exact : Bool) (given got others port left mapped mapped' : ℕ) → Covers exact (got + port) (given + left) → Covers exact (given + others) mapped → mapped ≡ port → mapped' ≡ left → Covers exact (got + others) mapped'
account_mapped true given got others port left mapped mapped' a s e f = omega (arith, a, s, e, f)
account_mapped false given got others port left mapped mapped' a s e f = omega (arith, a, s, e, f)

or_true : (b : Bool) → (b || true) ≡ true
or_true true = refl
or_true false = refl

pub unlocks : {P H D : Type 0} (state : P → BoardState) (seen : H → HoldView) (fast : Fast H) (dials : Dialled H) (words : D → FlatView) (word : Dialled D) → BoardFacts seen fast dials words word →
    (places lending new : P) (a : ℕ) (h i : H) (before after : KeptArena) → LentOf (state places) a (seen h) (fast.stock h) (Some before) (state lending) → PortWalks fast dials h i → GaveOf (state lending) (seen i) (fast.stock i) after (state new) →
    IsUnlocked (board_ways state seen fast words) fast places a h before i after new
unlocks state seen fast dials words word f places lending new a h i before after l walk g =
    let z : Later (seen h) (seen i) = later seen fast dials words word f walk in
    let v : FlatView = l.view in
    let w : FlatView = g.view in
    let here : (state new).here ≡ Some w = ap (λ (s : BoardState). s.here) g.left in
    let hv : (seen h).view ≡ v = l.locks.view in
    let arena : (seen i).arena ≡ a = z.arena ∙ l.locks.arena in
    let lent : (seen i).kept ≡ Some before = z.kept ∙ l.was in
    let mine : (e : Chunk) → in_mine w (as_chunk_of a e) + fast.stock i e ≡ times_used e after.arena = λ e.
    subst (λ (n : ℕ). in_mine w (as_chunk_of n e) + fast.stock i e ≡ times_used e after.arena) arena (g.unlocked.mine e)
    in
    let had : (e : Chunk) → fast.stock h e + in_mine v (as_chunk_of a e) ≡ times_used e before.arena = λ e. l.locks.backed e ∙ ap (used_in e) l.was in
    let others : (n : ℕ) (e : Chunk) → (n ≡ a → ⊥) → in_mine w (as_chunk_of n e) ≡ in_mine v (as_chunk_of n e) = λ n e ne.
    g.unlocked.others n e (λ same. ne (same ∙ arena)) ∙ (z.others n e (λ same. ne (same ∙ l.locks.arena)) ∙ ap (λ (x : FlatView). in_mine x (as_chunk_of n e)) hv)
    in
    let mapped : w.mapped ≡ (seen i).view.mapped = ap (λ (x : FlatView). x.mapped) g.unlocked.rest in
    let bytes : w.bytes ≡ (seen i).view.bytes = ap (λ (x : FlatView). x.bytes) g.unlocked.rest in
    let given : w.given ≡ (seen i).view.given = ap (λ (x : FlatView). x.given) g.unlocked.rest in
    let all : w.all_mapped ≡ (seen i).view.all_mapped = ap (λ (x : FlatView). x.all_mapped) g.unlocked.rest in
    let tuned : w.tunables ≡ v.tunables = ap (λ (x : FlatView). x.tunables) g.unlocked.rest ∙ (z.tunables ∙ ap (λ (x : FlatView). x.tunables) hv) in
    record {
      serves = λ exact hands got more acc s.
          let same : s.view ≡ v = same_some s.view v s.at l.at in
          let o : Owns exact (both_of hands more) v = subst (Owns exact (both_of hands more)) same s.is in
          record {
            view = w;
            at = here;
            is = record {
              chunks = λ n e. elim (cases_eq n a) [
                | inl is ↦ subst (λ (x : ℕ). Covers exact (both_of got more (as_chunk_of x e)) (in_mine w (as_chunk_of x e))) (sym is)
                    (account_chunks exact (times_used e before.arena) (times_used e after.arena) (fast.stock h e) (fast.stock i e) _ _ _ _ _ (acc.chunks e) (o.chunks a e) (had e) (mine e))
                | inr ne ↦ account_others exact _ _ _ _ _ (acc.others n e ne) (o.chunks n e) (others n e ne)
              ];
              count = account_mapped exact _ _ _ (seen h).view.mapped (seen i).view.mapped _ _ acc.count o.count (ap (λ (x : FlatView). x.mapped) (sym hv)) mapped;
              bytes = account_mapped exact _ _ _ (seen h).view.bytes (seen i).view.bytes _ _ acc.bytes o.bytes (ap (λ (x : FlatView). x.bytes) (sym hv)) bytes;
            };
          };
      notes = λ own own' more noted n.
          let same : n.view ≡ v = same_some n.view v n.at l.at in
          record {
            view = w;
            at = here;
            is = record {
              given = omega (arith, noted.bytes, n.is.given, z.bytes, z.given, given, ap (λ (x : FlatView). x.given) same, ap (λ (x : FlatView). x.given) hv);
              count = omega (arith, noted.count, n.is.count, z.mapped, z.all_mapped, all, ap (λ (x : FlatView). x.all_mapped) same, ap (λ (x : FlatView). x.all_mapped) hv);
            };
          };
      tunables = ap tunables_in here ∙ (tuned ∙ sym (ap tunables_in l.at));
      writes = λ x e.
          let is : (state lending).who ≡ x = ap (λ (s : BoardState). s.who) l.left ∙ e.0 in
          let fits : LineFits x v = subst (LineFits x) (same_some e.1.view v e.1.at l.at) e.1.is in (
            ap (λ (s : BoardState). s.who) g.left ∙ is,
            record {
              view = w;
              at = here;
              is = fits_more x v w (seen i).arena (journal_in (seen i).kept) g.entries
                  (ap (λ (y : FlatView). y.number) g.unlocked.rest ∙ (z.number ∙ ap (λ (y : FlatView). y.number) hv))
                  (ap (λ (y : FlatView). y.added) g.unlocked.rest ∙ ap (λ (ys : List Added). ys ++ added_to (seen i).arena (journal_in (seen i).kept) g.entries) (z.added ∙ ap (λ (y : FlatView). y.added) hv))
                  (subst (λ (y : Who). AreOf y g.entries) is g.returns.whose) fits;
            },
          );
      lists = λ n t.
          let was : IsTrue (in_lists n v) = subst (λ (o : Option FlatView). IsTrue (listed_in o n)) l.at t in
          let same : w.lists ≡ v.lists = ap (λ (x : FlatView). x.lists) g.unlocked.rest ∙ (z.lists ∙ ap (λ (x : FlatView). x.lists) hv) in
          subst (λ (o : Option FlatView). IsTrue (listed_in o n)) (sym here) (subst (λ (xss : List (List ℕ)). IsTrue (list_any (λ xs. has n xs) xss)) (sym same) was);
      whole = λ x.
          let same : x.view ≡ v = same_some x.view v x.at l.at in
          record {
            view = w;
            at = here;
            is = ap (λ (y : FlatView). y.own) g.unlocked.rest ∙ (ap (λ (o : Option KeptArena). own_stored (seen i).arena o (seen i).view.own) lent ∙ (z.own ∙ (ap (λ (y : FlatView). y.own) hv ∙ (ap (λ (y : FlatView). y.own) (sym same) ∙ x.is))));
          };
    }

-- what is given back may be
pub returns : {P H D : Type 0} (state : P → BoardState) (seen : H → HoldView) (fast : Fast H) (dials : Dialled H) (words : D → FlatView) (word : Dialled D) → BoardFacts seen fast dials words word →
    (q : P) (i : H) (k : KeptArena) (r : IsReturn (board_ways state seen fast words) fast dials k i q) → Returns (state q).who (seen i) (fast.stock i) r.entries k
returns state seen fast dials words word f q i k r =
    let z : Later (seen r.port) (seen i) = later seen fast dials words word f r.goes in
    let l = r.lent in
    let arena : (seen i).arena ≡ r.arena = z.arena ∙ l.locks.arena in
    let kept : (seen i).kept ≡ Some r.before = z.kept ∙ l.was in
    let tuned : (seen i).view.tunables ≡ tunables_in (state r.places).here = z.tunables ∙ (ap (λ (x : FlatView). x.tunables) l.locks.view ∙ sym (ap tunables_in l.at)) in
    let home : IsHome (tunables_in (state r.places).here) r.arena k = record { number = r.number; sound = r.sound; placed = r.placed; heaps = r.heaps; replays = r.replays } in
    record {
      home = subst (λ (n : ℕ). IsHome (seen i).view.tunables n k) (sym arena) (subst (λ (t : Tunables). IsHome t r.arena k) (sym tuned) home);
      grew = r.grew ∙ ap (λ (o : Option KeptArena). journal_in o ++ r.entries) (sym kept);
      fits = subst (λ (x : Who). LineFits x (seen i).view) (sym (ap (λ (s : BoardState). s.who) l.left ∙ r.writes.0))
          (fits_same r.who l.view (seen i).view (z.number ∙ ap (λ (x : FlatView). x.number) l.locks.view) (z.added ∙ ap (λ (x : FlatView). x.added) l.locks.view)
          (subst (LineFits r.who) (same_some r.writes.1.view l.view r.writes.1.at l.at) r.writes.1.is));
      whose = subst (λ (x : Who). AreOf x r.entries) (sym (ap (λ (s : BoardState). s.who) l.left ∙ r.writes.0)) r.whose;
      covered = λ e.
          let same : r.served.view ≡ l.view = same_some r.served.view l.view r.served.at l.at in
          omega (arith, r.covered e, r.served.is.chunks r.arena e, ap (λ (x : FlatView). in_mine x (as_chunk_of r.arena e)) same, l.locks.backed e, ap (used_in e) l.was);
      new = λ none. absurd cc;
    }

pub within_here : {Q P : Type 0} (view : Q → FlatView) (pass : P → Option Q) (polls : P → ℕ) (who : P → Who) → ((q : Q) → IsWithin (view q)) →
    AreWithin (λ p. state_at (option_map view (pass p)) (polls p) (who p))
within_here {Q = Q} view pass polls who law p v at =
    let cases : (o : Option Q) → option_map view o ≡ Some v → IsWithin v = elim [
      | None ↦ λ none. absurd cc
      | Some q ↦ λ is.
          let same : view q ≡ v = cc in
          subst IsWithin same (law q)
    ] in
    cases (pass p) at

-- ---- the words come back

-- the view behind steps at the words
abbrev pub after_words : List DialStep → FlatView → FlatView
after_words [] v = v
after_words (s ∷ ss) v = after_words ss (after_word s v)

words_walk : {H D : Type 0} (seen : H → HoldView) (fast : Fast H) (dials : Dialled H) (words : D → FlatView) (word : Dialled D) → BoardFacts seen fast dials words word →
    (ss : List DialStep) (d e : D) → AllSteps word d ss e → words e ≡ after_words ss (words d)
words_walk seen fast dials words word f [] d e walk = ap words walk
words_walk seen fast dials words word f (s ∷ ss) d e walk =
    words_walk seen fast dials words word f ss walk.next e walk.rest ∙ ap (after_words ss) (f.word_steps d walk.next s walk.step).is

words_count : (ss : List DialStep) (v : FlatView) → (unmaps_in ss).count ≤ v.mapped → (after_words ss v).mapped + (unmaps_in ss).count ≡ v.mapped + (maps_in ss).count
words_count [] v le = omega arith
words_count (Reads w n ∷ ss) v le = words_count ss (after_word (Reads w n) v) le
words_count (Raises size ∷ ss) v le = words_count ss (after_word (Raises size) v) le
words_count (Maps len ∷ ss) v le = omega (arith, words_count ss (after_word (Maps len) v) (omega (arith, le)))
words_count (Unmaps len ∷ ss) v le = omega (arith, le, words_count ss (after_word (Unmaps len) v) (omega (arith, le)))
words_count (Remaps old_len new_len ∷ ss) v le = words_count ss (after_word (Remaps old_len new_len) v) le

words_bytes : (ss : List DialStep) (v : FlatView) → (unmaps_in ss).bytes ≤ v.bytes → (after_words ss v).bytes + (unmaps_in ss).bytes ≡ v.bytes + (maps_in ss).bytes
words_bytes [] v le = omega arith
words_bytes (Reads w n ∷ ss) v le = words_bytes ss (after_word (Reads w n) v) le
words_bytes (Raises size ∷ ss) v le = words_bytes ss (after_word (Raises size) v) le
words_bytes (Maps len ∷ ss) v le = omega (arith, words_bytes ss (after_word (Maps len) v) (omega (arith, le)))
words_bytes (Unmaps len ∷ ss) v le = omega (arith, le, words_bytes ss (after_word (Unmaps len) v) (omega (arith, le)))
words_bytes (Remaps old_len new_len ∷ ss) v le = omega (arith, le, words_bytes ss (after_word (Remaps old_len new_len) v) (omega (arith, le)))

given_more : (b : Bool) (n m : ℕ) → cond b n (n + m) ≤ n + m
given_more true n m = omega arith
given_more false n m = omega arith

words_given : (ss : List DialStep) (v : FlatView) → (after_words ss v).given ≤ v.given + (maps_in ss).bytes
words_given [] v = omega arith
words_given (Reads w n ∷ ss) v = words_given ss (after_word (Reads w n) v)
words_given (Raises size ∷ ss) v = words_given ss (after_word (Raises size) v)
words_given (Maps len ∷ ss) v = omega (arith, words_given ss (after_word (Maps len) v))
words_given (Unmaps len ∷ ss) v = words_given ss (after_word (Unmaps len) v)
words_given (Remaps old_len new_len ∷ ss) v = omega (arith, words_given ss (after_word (Remaps old_len new_len) v), given_more (nat_le new_len old_len) v.given new_len)

words_mine : (ss : List DialStep) (v : FlatView) → (after_words ss v).mine ≡ v.mine
words_mine [] v = refl
words_mine (Reads w n ∷ ss) v = words_mine ss (after_word (Reads w n) v)
words_mine (Raises size ∷ ss) v = words_mine ss (after_word (Raises size) v)
words_mine (Maps len ∷ ss) v = words_mine ss (after_word (Maps len) v)
words_mine (Unmaps len ∷ ss) v = words_mine ss (after_word (Unmaps len) v)
words_mine (Remaps old_len new_len ∷ ss) v = words_mine ss (after_word (Remaps old_len new_len) v)

words_own : (ss : List DialStep) (v : FlatView) → (after_words ss v).own ≡ v.own
words_own [] v = refl
words_own (Reads w n ∷ ss) v = words_own ss (after_word (Reads w n) v)
words_own (Raises size ∷ ss) v = words_own ss (after_word (Raises size) v)
words_own (Maps len ∷ ss) v = words_own ss (after_word (Maps len) v)
words_own (Unmaps len ∷ ss) v = words_own ss (after_word (Unmaps len) v)
words_own (Remaps old_len new_len ∷ ss) v = words_own ss (after_word (Remaps old_len new_len) v)

words_tunables : (ss : List DialStep) (v : FlatView) → (after_words ss v).tunables ≡ v.tunables
words_tunables [] v = refl
words_tunables (Reads w n ∷ ss) v = words_tunables ss (after_word (Reads w n) v)
words_tunables (Raises size ∷ ss) v = words_tunables ss (after_word (Raises size) v)
words_tunables (Maps len ∷ ss) v = words_tunables ss (after_word (Maps len) v)
words_tunables (Unmaps len ∷ ss) v = words_tunables ss (after_word (Unmaps len) v)
words_tunables (Remaps old_len new_len ∷ ss) v = words_tunables ss (after_word (Remaps old_len new_len) v)

words_number : (ss : List DialStep) (v : FlatView) → (after_words ss v).number ≡ v.number
words_number [] v = refl
words_number (Reads w n ∷ ss) v = words_number ss (after_word (Reads w n) v)
words_number (Raises size ∷ ss) v = words_number ss (after_word (Raises size) v)
words_number (Maps len ∷ ss) v = words_number ss (after_word (Maps len) v)
words_number (Unmaps len ∷ ss) v = words_number ss (after_word (Unmaps len) v)
words_number (Remaps old_len new_len ∷ ss) v = words_number ss (after_word (Remaps old_len new_len) v)

words_added : (ss : List DialStep) (v : FlatView) → (after_words ss v).added ≡ v.added
words_added [] v = refl
words_added (Reads w n ∷ ss) v = words_added ss (after_word (Reads w n) v)
words_added (Raises size ∷ ss) v = words_added ss (after_word (Raises size) v)
words_added (Maps len ∷ ss) v = words_added ss (after_word (Maps len) v)
words_added (Unmaps len ∷ ss) v = words_added ss (after_word (Unmaps len) v)
words_added (Remaps old_len new_len ∷ ss) v = words_added ss (after_word (Remaps old_len new_len) v)

words_all : (ss : List DialStep) (v : FlatView) → (after_words ss v).all_mapped ≡ v.all_mapped + (maps_in ss).count
words_all [] v = omega arith
words_all (Reads w n ∷ ss) v = words_all ss (after_word (Reads w n) v)
words_all (Raises size ∷ ss) v = words_all ss (after_word (Raises size) v)
words_all (Maps len ∷ ss) v = omega (arith, words_all ss (after_word (Maps len) v))
words_all (Unmaps len ∷ ss) v = words_all ss (after_word (Unmaps len) v)
words_all (Remaps old_len new_len ∷ ss) v = words_all ss (after_word (Remaps old_len new_len) v)

at_least : (exact : Bool) (n m : ℕ) → Covers exact n m → n ≤ m
at_least true n m e = omega (arith, e)
at_least false n m e = e

turned : (exact : Bool) (x y given got others lost won : ℕ) → y + lost ≡ x + won → got + lost ≡ given + won → Covers exact (given + others) x → Covers exact (got + others) y
turned true x y given got others lost won e f s = omega (arith, e, f, s)
turned false x y given got others lost won e f s = omega (arith, e, f, s)

moved_to : (exact : Bool) (given got others mine mine' : ℕ) → got ≡ given → mine' ≡ mine → Covers exact (given + others) mine → Covers exact (got + others) mine'
moved_to true given got others mine mine' e f s = omega (arith, e, f, s)
moved_to false given got others mine mine' e f s = omega (arith, e, f, s)

pub words_back : {P H D : Type 0} (state : P → BoardState) (seen : H → HoldView) (fast : Fast H) (dials : Dialled H) (words : D → FlatView) (word : Dialled D) → BoardFacts seen fast dials words word →
    (places lending new : P) (first d : D) (steps : List DialStep) → WordsOut (state places) (words first) (state lending) → AllSteps word first steps d → state new ≡ record (state lending) { here = Some (words d) } →
    AreReturned (board_ways state seen fast words) word places first steps new
words_back state seen fast dials words word f places lending new first d steps out walk back =
    let v : FlatView = words first in
    let w : FlatView = words d in
    let here : (state new).here ≡ Some w = ap (λ (s : BoardState). s.here) back in
    let is : w ≡ after_words steps v = words_walk seen fast dials words word f steps first d walk in
    let mine : w.mine ≡ v.mine = ap (λ (x : FlatView). x.mine) is ∙ words_mine steps v in
    record {
      serves = λ exact given got others c s.
          let o : Owns exact (both_of given others) v = subst (Owns exact (both_of given others)) (same_some s.view v s.at out.told) s.is in
          record {
            view = w;
            at = here;
            is = record {
              chunks = λ n e. moved_to exact _ _ _ _ _ (c.chunks n e) (ap (λ (m : List Block). sum_by (as_chunk_of n e) m) mine) (o.chunks n e);
              count = turned exact v.mapped w.mapped _ _ _ (unmaps_in steps).count (maps_in steps).count
                  (omega (arith, ap (λ (x : FlatView). x.mapped) is, words_count steps v (omega (arith, c.had, at_least exact _ _ o.count)))) c.count o.count;
              bytes = turned exact v.bytes w.bytes _ _ _ (unmaps_in steps).bytes (maps_in steps).bytes
                  (omega (arith, ap (λ (x : FlatView). x.bytes) is, words_bytes steps v (omega (arith, c.had_bytes, at_least exact _ _ o.bytes)))) c.bytes o.bytes;
            };
          };
      notes = λ own own' others count bytes n. record {
        view = w;
        at = here;
        is = record {
          given = omega (arith, bytes, n.is.given, ap (λ (x : FlatView). x.given) (same_some n.view v n.at out.told), ap (λ (x : FlatView). x.given) is, words_given steps v);
          count = omega (arith, count, n.is.count, ap (λ (x : FlatView). x.all_mapped) (same_some n.view v n.at out.told), ap (λ (x : FlatView). x.all_mapped) is, words_all steps v);
        };
      };
      shorter = λ old_len new_len own others one allowed less n. record {
        view = w;
        at = here;
        is = record {
          given = omega (
            arith,
            n.is.given,
            ap (λ (x : FlatView). x.given) (same_some n.view v n.at out.told),
            ap (λ (x : FlatView). x.given) is,
            ap (λ (ss : List DialStep). (after_words ss v).given) one,
            ap (λ (b : Bool). cond b v.given (v.given + new_len)) (le-leb new_len old_len less),
          );
          count = omega (
            arith,
            n.is.count,
            ap (λ (x : FlatView). x.all_mapped) (same_some n.view v n.at out.told),
            ap (λ (x : FlatView). x.all_mapped) is,
            ap (λ (ss : List DialStep). (after_words ss v).all_mapped) one,
          );
        };
      };
      tunables = ap tunables_in here ∙ (ap (λ (x : FlatView). x.tunables) is ∙ (words_tunables steps v ∙ sym (ap tunables_in out.told)));
      writes = λ x e. (
        ap (λ (s : BoardState). s.who) back ∙ (ap (λ (s : BoardState). s.who) out.left ∙ e.0),
        record {
          view = w;
          at = here;
          is = fits_same x v w (ap (λ (y : FlatView). y.number) is ∙ words_number steps v) (ap (λ (y : FlatView). y.added) is ∙ words_added steps v)
              (subst (LineFits x) (same_some e.1.view v e.1.at out.told) e.1.is);
        },
      );
      whole = λ x. record {
        view = w;
        at = here;
        is = ap (λ (y : FlatView). y.own) is ∙ (words_own steps v ∙ (ap (λ (y : FlatView). y.own) (sym (same_some x.view v x.at out.told)) ∙ x.is));
      };
    }

-- ---- a block changes hands

-- what stays when a block changes hands
pub record Frames (v w : FlatView) : Type 0 where
  pub tunables : w.tunables ≡ v.tunables
  pub number : w.number ≡ v.number
  pub added : w.added ≡ v.added
  pub own : w.own ≡ v.own
  pub given : w.given ≡ v.given
  pub all_mapped : w.all_mapped ≡ v.all_mapped

notes_same : (own : ℕ) (u v w : FlatView) → u ≡ v → Frames v w → Notes own u → Notes own w
notes_same own u v w same fr n = record {
  given = omega (arith, n.given, fr.given, ap (λ (x : FlatView). x.given) same);
  count = omega (arith, n.count, fr.all_mapped, ap (λ (x : FlatView). x.all_mapped) same);
}

has_block : (hands : Hands) (b : Block) (v : FlatView) → Owns false (λ weigh. weigh b) v → HasBlock b v
has_block hands b v o = record { chunks = o.chunks; count = o.count; bytes = o.bytes }

pub served_block : (st : BoardState) (v : FlatView) (b : Block) → st.here ≡ Some v → Here st (Owns false (λ weigh. weigh b)) → HasBlock b v
served_block st v b at h = subst (HasBlock b) (same_some h.view v h.at at) (has_block (λ weigh. weigh b) b h.view h.is)

given_up : (exact : Bool) (block others mine mine' : ℕ) → mine' + block ≡ mine → Covers exact (block + others) mine → Covers exact (0 + others) mine'
given_up true block others mine mine' e s = omega (arith, e, s)
given_up false block others mine mine' e s = omega (arith, e, s)

pub gave_unseen : {P H D : Type 0} (state : P → BoardState) (seen : H → HoldView) (fast : Fast H) (words : D → FlatView) (p q : P) (b : Block) (v w : FlatView) → (state p).here ≡ Some v → state q ≡ record (state p) { here = Some w } →
    GaveBlock b v w → Frames v w → IsUnseen (board_ways state seen fast words) p (λ weigh. weigh b) (λ _. 0) q
gave_unseen state seen fast words p q b v w at left g fr = record {
  serves = λ exact others s.
      let o : Owns exact (both_of (λ weigh. weigh b) others) v = subst (Owns exact (both_of (λ weigh. weigh b) others)) (same_some s.view v s.at at) s.is in
      record {
        view = w;
        at = ap (λ (x : BoardState). x.here) left;
        is = record {
          chunks = λ n e. given_up exact _ _ _ _ (g.chunks n e) (o.chunks n e);
          count = given_up exact _ _ _ _ g.count o.count;
          bytes = given_up exact _ _ _ _ g.bytes o.bytes;
        };
      };
  notes = λ mine others n. record { view = w; at = ap (λ (x : BoardState). x.here) left; is = notes_same mine n.view v w (same_some n.view v n.at at) fr n.is };
  tunables = ap (λ (x : BoardState). tunables_in x.here) left ∙ (fr.tunables ∙ sym (ap tunables_in at));
  writes = λ x e. (
    ap (λ (y : BoardState). y.who) left ∙ e.0,
    record { view = w; at = ap (λ (y : BoardState). y.here) left; is = fits_same x v w fr.number fr.added (subst (LineFits x) (same_some e.1.view v e.1.at at) e.1.is) },
  );
  whole = λ x. record { view = w; at = ap (λ (y : BoardState). y.here) left; is = fr.own ∙ (ap (λ (y : FlatView). y.own) (sym (same_some x.view v x.at at)) ∙ x.is) };
}

-- what was got comes to what others have
got_more : (exact : Bool) (block others mine mine' : ℕ) → mine' ≡ mine + block → Covers exact (0 + others) mine → Covers exact (block + others) mine'
got_more true block others mine mine' e s = omega (arith, e, s)
got_more false block others mine mine' e s = omega (arith, e, s)

same_cover : (exact : Bool) (others mine mine' : ℕ) → mine' ≡ mine → Covers exact (0 + others) mine → Covers exact (0 + others) mine'
same_cover true others mine mine' e s = omega (arith, e, s)
same_cover false others mine mine' e s = omega (arith, e, s)

abbrev in_found : Result Block ℕ → Hands
in_found found weigh = elim found [ Ok b ↦ weigh b | Err seen ↦ 0 ]

-- the view behind a take
-- nothing changed hands
pub record SameBlocks (v w : FlatView) : Type 0 where
  pub mine : w.mine ≡ v.mine
  pub count : w.mapped ≡ v.mapped
  pub bytes : w.bytes ≡ v.bytes

abbrev TookView : Result Block ℕ → FlatView → FlatView → Type 0
TookView (Ok b) v w = GotBlock b v w
TookView (Err seen) v w = SameBlocks v w

took_owns : (exact : Bool) (found : Result Block ℕ) (others : Hands) (v w : FlatView) → TookView found v w → Owns exact (both_of (λ _. 0) others) v → Owns exact (both_of (in_found found) others) w
took_owns exact (Ok b) others v w g o = record {
  chunks = λ n e. got_more exact _ _ _ _ (g.chunks n e) (o.chunks n e);
  count = got_more exact _ _ _ _ g.count o.count;
  bytes = got_more exact _ _ _ _ g.bytes o.bytes;
}
took_owns exact (Err seen) others v w g o = record {
  chunks = λ n e. same_cover exact _ _ _ (ap (λ (m : List Block). sum_by (as_chunk_of n e) m) g.mine) (o.chunks n e);
  count = same_cover exact _ _ _ g.count o.count;
  bytes = same_cover exact _ _ _ g.bytes o.bytes;
}

pub took_unseen : {P H D : Type 0} (state : P → BoardState) (seen : H → HoldView) (fast : Fast H) (words : D → FlatView) (p q : P) (found : Result Block ℕ) (v w : FlatView) → (state p).here ≡ Some v → state q ≡ record (state p) { here = Some w } →
    TookView found v w → Frames v w → IsUnseen (board_ways state seen fast words) p (λ _. 0) (in_found found) q
took_unseen state seen fast words p q found v w at left g fr = record {
  serves = λ exact others s. record {
    view = w;
    at = ap (λ (x : BoardState). x.here) left;
    is = took_owns exact found others v w g (subst (Owns exact (both_of (λ _. 0) others)) (same_some s.view v s.at at) s.is);
  };
  notes = λ mine others n. record { view = w; at = ap (λ (x : BoardState). x.here) left; is = notes_same mine n.view v w (same_some n.view v n.at at) fr n.is };
  tunables = ap (λ (x : BoardState). tunables_in x.here) left ∙ (fr.tunables ∙ sym (ap tunables_in at));
  writes = λ x e. (
    ap (λ (y : BoardState). y.who) left ∙ e.0,
    record { view = w; at = ap (λ (y : BoardState). y.here) left; is = fits_same x v w fr.number fr.added (subst (LineFits x) (same_some e.1.view v e.1.at at) e.1.is) },
  );
  whole = λ x. record { view = w; at = ap (λ (y : BoardState). y.here) left; is = fr.own ∙ (ap (λ (y : FlatView). y.own) (sym (same_some x.view v x.at at)) ∙ x.is) };
}

missed_same : (v w : FlatView) (polls : ℕ) (found : List (ℕ × ℕ)) → w.mine ≡ v.mine → w.mapped ≡ v.mapped → w.bytes ≡ v.bytes → w.asks ≡ v.asks + polls →
    let x : FlatView = record v { asks = v.asks + polls; found = found } in x ≡ record v { mine = w.mine; mapped = w.mapped; bytes = w.bytes; asks = w.asks; found = found }
missed_same v w polls found mine mapped bytes asks = cc

-- a tray's answer
pub took_by : {P H D : Type 0} (state : P → BoardState) (seen : H → HoldView) (fast : Fast H) (words : D → FlatView) (p q : P) (tray : ℕ) (result : Result Block Empty) (v w : FlatView) → (state p).here ≡ Some v → state q ≡ record (state p) { here = Some w } →
    IfOk result (λ b. GotBlock b v w) → IfOk result IsHeld →
    IfOk result (λ b. (more : List (ℕ × ℕ)) × (w ≡ record v { mine = w.mine; mapped = w.mapped; bytes = w.bytes; asks = w.asks; takes = record { tray = tray; block = b } ∷ v.takes; found = more ++ v.found })) →
    IfErr result (λ e. (more : List (ℕ × ℕ)) × (w ≡ record v { asks = v.asks + (state p).polls; found = (tray, e.seen) ∷ more ++ v.found })) → IsTaken (board_ways state seen fast words) tray p (found_in_tray result) q
took_by state seen fast words p q tray (Ok b) v w at left got held took missed = record {
  took = record { view = v; now = w; more = took.0; at = at; rest = took.1; asked = tt; left = left };
  held = held;
  unseen = took_unseen state seen fast words p q (Ok b) v w at left got
      (record { tunables = ap (λ (x : FlatView). x.tunables) took.1; number = ap (λ (x : FlatView). x.number) took.1; added = ap (λ (x : FlatView). x.added) took.1; own = ap (λ (x : FlatView). x.own) took.1; given = ap (λ (x : FlatView). x.given) took.1; all_mapped = ap (λ (x : FlatView). x.all_mapped) took.1 });
}
took_by state seen fast words p q tray (Err e) v w at left got held took missed =
    let is = missed.1 in
    let mine : w.mine ≡ v.mine = ap (λ (x : FlatView). x.mine) is in
    let mapped : w.mapped ≡ v.mapped = ap (λ (x : FlatView). x.mapped) is in
    let bytes : w.bytes ≡ v.bytes = ap (λ (x : FlatView). x.bytes) is in
    let asks : w.asks ≡ v.asks + (state p).polls = ap (λ (x : FlatView). x.asks) is in
    record {
      took = record {
        view = v;
        now = w;
        more = missed.0;
        at = at;
        rest = is ∙ missed_same v w (state p).polls ((tray, e.seen) ∷ missed.0 ++ v.found) mine mapped bytes asks;
        asked = asks;
        left = left;
      };
      held = tt;
      unseen = took_unseen state seen fast words p q (Err e.seen) v w at left (record { mine = mine; count = mapped; bytes = bytes })
          (record { tunables = ap (λ (x : FlatView). x.tunables) is; number = ap (λ (x : FlatView). x.number) is; added = ap (λ (x : FlatView). x.added) is; own = ap (λ (x : FlatView). x.own) is; given = ap (λ (x : FlatView). x.given) is; all_mapped = ap (λ (x : FlatView). x.all_mapped) is });
    }

-- ---- the book

-- none is left of a list whose numbers are in another
none_left : (xs ys : List ℕ) → ((n : ℕ) → has n xs ≡ true → has n ys ≡ true) → filter (λ n. not (has n ys)) xs ≡ []
none_left [] ys all = refl
none_left (x ∷ xs) ys all =
    ap (λ (b : Bool). cond (not b) (x ∷ filter (λ n. not (has n ys)) xs) (filter (λ n. not (has n ys)) xs)) (all x (has_first x xs)) ∙ none_left xs ys (λ n h. all n (has_more n x xs h))

-- numbers that are kept for new arenas
abbrev unstored : List ℕ → List Own
unstored xs = map (λ n. let o : Own = record { number = n; stored = false } in o) xs

own_same : (kept : List ℕ) → own_after kept kept [] ≡ []
own_same kept = ap unstored (none_left kept kept (λ n h. h))

own_new : (n : ℕ) (kept : List ℕ) → has n kept ≡ false → own_after kept (n ∷ kept) [] ≡ kept_number n
own_new n kept out =
    ap unstored (ap (λ (b : Bool). cond (not b) (n ∷ filter (λ k. not (has k kept)) kept) (filter (λ k. not (has k kept)) kept)) out ∙ ap (λ xs. n ∷ xs) (none_left kept kept (λ n h. h)))

own_undone : (n : ℕ) (stored : Bool) (kept : List ℕ) → own_after kept (without n kept) (record { number = n; stored = stored } ∷ []) ≡ []
own_undone n stored kept =
    let o : Own = record { number = n; stored = stored } in
    ap (λ (b : Bool). cond b (o ∷ []) [] ++ unstored (filter (λ k. not (has k kept)) (without n kept))) (gone n kept) ∙ ap unstored (none_left (without n kept) kept (λ k h. was_there k n kept h))

pub booked_aside : {P H D : Type 0} (state : P → BoardState) (seen : H → HoldView) (fast : Fast H) (words : D → FlatView) (p q : P) (v : FlatView) (b : BookValue) (own : List Own) → (state p).here ≡ Some v →
    state q ≡ record (state p) { here = Some (after_book b own v) } → IsAside (board_ways state seen fast words) p q
booked_aside state seen fast words p q v b own at left = record {
  serves = λ exact hands s. record { view = after_book b own v; at = ap (λ (x : BoardState). x.here) left; is = let o : Owns exact hands v = subst (Owns exact hands) (same_some s.view v s.at at) s.is in record { chunks = o.chunks; count = o.count; bytes = o.bytes } };
  notes = λ mine others n. record { view = after_book b own v; at = ap (λ (x : BoardState). x.here) left; is = let m : Notes mine v = subst (Notes mine) (same_some n.view v n.at at) n.is in record { given = m.given; count = m.count } };
  tunables = ap (λ (x : BoardState). tunables_in x.here) left ∙ sym (ap tunables_in at);
  writes = λ x e. (
    ap (λ (y : BoardState). y.who) left ∙ e.0,
    record { view = after_book b own v; at = ap (λ (y : BoardState). y.here) left; is = fits_same x v (after_book b own v) refl refl (subst (LineFits x) (same_some e.1.view v e.1.at at) e.1.is) },
  );
}

listed_now : (a : ℕ) (b : BookValue) (own : List Own) (v : FlatView) → has a b.list ≡ true → in_lists a (after_book b own v) ≡ true
listed_now a b own v h = or_less (has a b.list) (in_lists a v) h

known_listed : (a : ℕ) (b : BookValue) (own : List Own) (v : FlatView) → has a b.list ≡ true → is_known (after_book b own v) a ≡ true
known_listed a b own v h = or_more (nat_eq a 0) _ (or_less (in_lists a (after_book b own v)) _ (listed_now a b own v h))

pub undone_by : {P H D : Type 0} (state : P → BoardState) (seen : H → HoldView) (fast : Fast H) (words : D → FlatView) (p q : P) (v w : FlatView) (b : BookValue) (a : ℕ) → (state p).here ≡ Some v → state q ≡ record (state p) { here = Some w } →
    IsBookOf v b → w ≡ after_book (undone_book b a) (own_after b.kept (undone_book b a).kept v.own) v → v.own ≡ kept_number a → IsUndone (board_ways state seen fast words) a p q
undone_by state seen fast words p q v w b a at left found is own =
    let here : state q ≡ record (state p) { here = Some (after_book (undone_book b a) (own_after b.kept (undone_book b a).kept v.own) v) } =
    left ∙ ap (λ (x : FlatView). let s : BoardState = record (state p) { here = Some x } in s) is in
    record {
      book = b;
      booked = record { view = v; own = own_after b.kept (undone_book b a).kept v.own; at = at; found = found; left = here };
      aside = booked_aside state seen fast words p q v (undone_book b a) (own_after b.kept (undone_book b a).kept v.own) at here;
      whole = record {
        view = w;
        at = ap (λ (s : BoardState). s.here) left;
        is = ap (λ (x : FlatView). x.own) is ∙ (ap (λ xs. own_after b.kept (without a b.kept) xs) own ∙ own_undone a false b.kept);
      };
    }

-- a hold of the book that keeps the same numbers
pub booked_by : {P H D : Type 0} (state : P → BoardState) (seen : H → HoldView) (fast : Fast H) (words : D → FlatView) (p q : P) (v w : FlatView) (b now : BookValue) (change : BookChange) → (state p).here ≡ Some v → state q ≡ record (state p) { here = Some w } →
    IsBookOf v b → w ≡ after_book now (own_after b.kept now.kept v.own) v → now ≡ book_after v.tunables change b → now.kept ≡ b.kept → IsBooked (board_ways state seen fast words) p change q
booked_by state seen fast words p q v w b now change at left found is by kept =
    let own : List Own = own_after b.kept now.kept v.own in
    let here : state q ≡ record (state p) { here = Some (after_book now own v) } = left ∙ ap (λ (x : FlatView). let s : BoardState = record (state p) { here = Some x } in s) is in
    let aside = booked_aside state seen fast words p q v now own at here in
    record {
      book = b;
      booked = record { view = v; own = own; at = at; found = found; left = here ∙ ap (λ (x : BookValue). let s : BoardState = record (state p) { here = Some (after_book x own v) } in s) by };
      unseen = record {
        serves = λ exact others s. aside.serves exact (both_of (λ _. 0) others) s;
        notes = aside.notes;
        tunables = aside.tunables;
        writes = aside.writes;
        whole = λ x. record {
          view = w;
          at = ap (λ (s : BoardState). s.here) left;
          is = ap (λ (y : FlatView). y.own) is ∙ (ap (λ ks. own_after b.kept ks v.own) kept ∙ (ap (λ os. own_after b.kept b.kept os) (ap (λ (y : FlatView). y.own) (sym (same_some x.view v x.at at)) ∙ x.is) ∙ own_same b.kept));
        };
      };
    }

left_kept : (b : BookValue) (thread : ℕ) (o : Option ℕ) → (left_book b thread o).kept ≡ b.kept
left_kept b thread None = refl
left_kept b thread (Some a) = refl

left_list : (b : BookValue) (thread : ℕ) (o : Option ℕ) → (left_book b thread o).list ≡ b.list
left_list b thread None = refl
left_list b thread (Some a) = refl

pub detached_kept : (b : BookValue) (thread : ℕ) → (detached_book b thread).kept ≡ b.kept
detached_kept b thread = left_kept b thread _

pub detached_list : (b : BookValue) (thread : ℕ) → (detached_book b thread).list ≡ b.list
detached_list b thread = left_list b thread _

pub listed_found : (o : Option FlatView) (v : FlatView) (b : BookValue) (a : ℕ) → o ≡ Some v → IsTrue (listed_in o a) → IsBookOf v b → has a b.list ≡ true
listed_found o v b a at listed found = found.listed a (subst (λ (x : Option FlatView). IsTrue (listed_in x a)) at listed)

pub pushed_frames : (v w : FlatView) (pushes : ℕ → List OwnChunk) (b : Block) → IsSome b.arena → ((a : ℕ) → b.arena ≡ Some a → w ≡ record v { mine = w.mine; pushes = pushes a }) → Frames v w
pushed_frames v w pushes b some rest =
    let cases : (o : Option ℕ) → b.arena ≡ o → IsSome o → Frames v w = elim [
      | None ↦ λ e s. absurd cc
      | Some a ↦ λ e s.
          let is = rest a e in
          record { tunables = ap (λ (x : FlatView). x.tunables) is; number = ap (λ (x : FlatView). x.number) is; added = ap (λ (x : FlatView). x.added) is; own = ap (λ (x : FlatView). x.own) is; given = ap (λ (x : FlatView). x.given) is; all_mapped = ap (λ (x : FlatView). x.all_mapped) is }
    ] in
    cases b.arena refl some

pub pass_here : {Q : Type 0} (view : Q → FlatView) (o : Option Q) (q : Q) → o ≡ Some q → option_map view o ≡ Some (view q)
pass_here view o q e = ap (option_map view) e

-- what a choice does to the kept numbers
abbrev pub KeptAs : Choice → List ℕ → List ℕ → Type 0
KeptAs (New n) was now = (now ≡ n ∷ was) × (has n was ≡ false)
KeptAs choice was now = now ≡ was

kept_new : (b : BookValue) → books.IsSound b → (v : Bool) → has_number_left b ≡ v → KeptAs (cond v (New (new_number b)) (Reuse (start_of b.next))) b.kept (cond v (with_new_number b) b).kept
kept_new b s true e = (refl, (sound_with_new_number b s e).kept.0)
kept_new b s false e = refl

kept_from : (own free : Option ℕ) (t : Tunables) (b : BookValue) → books.IsSound b → KeptAs (choice_from own free (with_limit_settled t b)) b.kept (book_from own free t b).kept
kept_from (Some a) free t b s = refl
kept_from None (Some a) t b s = refl
kept_from None None t b s = let c : BookValue = with_limit_settled t b in kept_new c (sound_limit b c.limit s) (has_number_left c) refl

pub kept_chosen : (b : BookValue) (thread : ℕ) (fresh : Bool) (t : Tunables) → books.IsSound b → KeptAs (choice_of b thread fresh t) b.kept (after_choice b thread fresh t).kept
kept_chosen b thread fresh t s = kept_from (own_arena b thread fresh) (newest_free b) t b s

or_false_ : (b : Bool) → (b || false) ≡ b
or_false_ true = refl
or_false_ false = refl

pub listed_has : (a : ℕ) (kept list : List ℕ) → (has a list || has a kept) ≡ true → has a (list_with a kept list) ≡ true
listed_has a kept list known =
    let cases : (v : Bool) → has a kept ≡ v → has a (cond v (with_second a list) list) ≡ true = elim [
      | true ↦ λ e. has-with_second a a list ∙ has_first a list
      | false ↦ λ e. sym (or_false_ (has a list)) ∙ (ap (λ (x : Bool). has a list || x) (sym e) ∙ known)
    ] in
    cases (has a kept) refl

-- an arena was chosen that isn't new, and stands in the list behind it
own_none : (was now : List ℕ) → ((n : ℕ) → has n now ≡ true → has n was ≡ true) → own_after was now [] ≡ []
own_none was now within = ap unstored (none_left now was within)

pub chosen_there : {P H D : Type 0} (state : P → BoardState) (seen : H → HoldView) (fast : Fast H) (words : D → FlatView) (q : P) (v w : FlatView) (was : List ℕ) (now : BookValue) (a : ℕ) → (state q).here ≡ Some w → w ≡ after_book now (own_after was now.kept v.own) v →
    v.own ≡ [] → ((n : ℕ) → has n now.kept ≡ true → has n was ≡ true) → has a now.list ≡ true → let ways = board_ways state seen fast words in ways.whole q × IsTrue (ways.there q a)
chosen_there state seen fast words q v w was now a here is own within listed = (
  record { view = w; at = here; is = ap (λ (x : FlatView). x.own) is ∙ (ap (λ xs. own_after was now.kept xs) own ∙ own_none was now.kept within) },
  subst (λ (o : Option FlatView). IsTrue (there_in o a)) (sym here) (ap (λ (x : FlatView). is_known x a) is ∙ known_listed a now (own_after was now.kept v.own) v listed),
)

pub chosen_new : {P H D : Type 0} (state : P → BoardState) (seen : H → HoldView) (fast : Fast H) (words : D → FlatView) (q : P) (v w : FlatView) (was : List ℕ) (now : BookValue) (a : ℕ) → (state q).here ≡ Some w → w ≡ after_book now (own_after was now.kept v.own) v →
    v.own ≡ [] → now.kept ≡ a ∷ was → has a was ≡ false → let ways = board_ways state seen fast words in ways.owed q a
chosen_new state seen fast words q v w was now a here is own kept out =
    let mine : w.own ≡ kept_number a = ap (λ (x : FlatView). x.own) is ∙ (ap (λ xs. own_after was now.kept xs) own ∙ (ap (λ xs. own_after was xs []) kept ∙ own_new a was out)) in
    record { view = w; at = here; is = mine }

pub allowed_default : {P H D : Type 0} (state : P → BoardState) (seen : H → HoldView) (fast : Fast H) (words : D → FlatView) (q : P) (v w : FlatView) (was : List ℕ) (now : BookValue) (choice : Choice) → (state q).here ≡ Some w → w ≡ after_book now (own_after was now.kept v.own) v →
    v.own ≡ [] → KeptAs choice was now.kept → IsUsable now choice → ((a : ℕ) → choice ≡ Free a → ⊥) → IsAllowed (board_ways state seen fast words) q choice
allowed_default state seen fast words q v w was now (Attached a) here is own kept usable not_free = chosen_there state seen fast words q v w was now a here is own (λ n h. subst (λ xs. has n xs ≡ true) kept h) usable
allowed_default state seen fast words q v w was now (Free a) here is own kept usable not_free = absurd (not_free a refl)
allowed_default state seen fast words q v w was now (New a) here is own kept usable not_free = chosen_new state seen fast words q v w was now a here is own kept.0 kept.1
allowed_default state seen fast words q v w was now (Reuse a) here is own kept usable not_free =
    let both = chosen_there state seen fast words q v w was now a here is own (λ n h. subst (λ xs. has n xs ≡ true) kept h) usable in
    (both.0, (both.1, subst (λ (o : Option FlatView). IsTrue (listed_in o a)) (sym here) (subst (λ (x : FlatView). IsTrue (in_lists a x)) (sym is) (listed_now a now (own_after was now.kept v.own) v usable))))

attached_other : (thread : ℕ) (choice : Choice) (b : BookValue) → ((a : ℕ) → choice ≡ Free a → ⊥) → attached_where_free thread choice b ≡ b
attached_other thread (Attached a) b other = refl
attached_other thread (Free a) b other = absurd (other a refl)
attached_other thread (New a) b other = refl
attached_other thread (Reuse a) b other = refl

chosen_is : {P H D : Type 0} (state : P → BoardState) (seen : H → HoldView) (fast : Fast H) (words : D → FlatView) (p q : P) (v w : FlatView) (b now : BookValue) (thread : ℕ) (fresh : Bool) (t : Tunables) (choice : Choice) →
    (state p).here ≡ Some v → state q ≡ record (state p) { here = Some w } → t ≡ v.tunables → IsBookOf v b → choice ≡ choice_of b thread fresh t → now ≡ book_after t (Chooses thread fresh) b →
    w ≡ after_book now (own_after b.kept now.kept v.own) v → IsAllowed (board_ways state seen fast words) q choice → IsChosen (board_ways state seen fast words) thread fresh t p choice q
chosen_is state seen fast words p q v w b now thread fresh t choice at left tuned found is after here allowed =
    let own : List Own = own_after b.kept now.kept v.own in
    let to : state q ≡ record (state p) { here = Some (after_book now own v) } = left ∙ ap (λ (x : FlatView). let s : BoardState = record (state p) { here = Some x } in s) here in
    let from : now ≡ book_after v.tunables (Chooses thread fresh) b = after ∙ ap (λ (x : Tunables). book_after x (Chooses thread fresh) b) tuned in
    record {
      book = b;
      booked = record { view = v; own = own; at = at; found = found; left = to ∙ ap (λ (x : BookValue). let s : BoardState = record (state p) { here = Some (after_book x own v) } in s) from };
      choice_is = is;
      aside = booked_aside state seen fast words p q v now own at to;
      allowed = allowed;
    }

pub chosen_other : {P H D : Type 0} (state : P → BoardState) (seen : H → HoldView) (fast : Fast H) (words : D → FlatView) (p q : P) (v w : FlatView) (b now : BookValue) (thread : ℕ) (fresh : Bool) (t : Tunables) (choice : Choice) →
    (state p).here ≡ Some v → state q ≡ record (state p) { here = Some w } → t ≡ v.tunables → IsBookOf v b → choice ≡ choice_of b thread fresh t → now ≡ after_choice b thread fresh t →
    IsUsable now choice → ((a : ℕ) → choice ≡ Free a → ⊥) → w ≡ after_book now (own_after b.kept now.kept v.own) v → v.own ≡ [] →
    IsChosen (board_ways state seen fast words) thread fresh t p choice q
chosen_other state seen fast words p q v w b now thread fresh t choice at left tuned found is after usable other here own =
    let kept : KeptAs choice b.kept now.kept = subst (λ (x : BookValue). KeptAs choice b.kept x.kept) (sym after) (subst (λ (c : Choice). KeptAs c b.kept (after_choice b thread fresh t).kept) (sym is) (kept_chosen b thread fresh t found.sound)) in
    let whole : now ≡ book_after t (Chooses thread fresh) b =
    after ∙ (sym (attached_other thread choice (after_choice b thread fresh t) other) ∙ ap (λ (c : Choice). attached_where_free thread c (after_choice b thread fresh t)) is) in
    chosen_is state seen fast words p q v w b now thread fresh t choice at left tuned found is whole here
    (allowed_default state seen fast words q v w b.kept now choice (ap (λ (s : BoardState). s.here) left) here own kept usable other)

pub chosen_free : {P H D : Type 0} (state : P → BoardState) (seen : H → HoldView) (fast : Fast H) (words : D → FlatView) (p q : P) (v w : FlatView) (b mid now : BookValue) (thread : ℕ) (fresh : Bool) (t : Tunables) (a : ℕ) →
    (state p).here ≡ Some v → state q ≡ record (state p) { here = Some w } → t ≡ v.tunables → IsBookOf v b → Free a ≡ choice_of b thread fresh t → mid ≡ after_choice b thread fresh t → now ≡ attached_book mid thread a →
    CanAttach mid a → w ≡ after_book now (own_after b.kept now.kept v.own) v → v.own ≡ [] →
    IsChosen (board_ways state seen fast words) thread fresh t p (Free a) q
chosen_free state seen fast words p q v w b mid now thread fresh t a at left tuned found is after then can here own =
    let kept : mid.kept ≡ b.kept = subst (λ (x : BookValue). KeptAs (Free a) b.kept x.kept) (sym after) (subst (λ (c : Choice). KeptAs c b.kept (after_choice b thread fresh t).kept) (sym is) (kept_chosen b thread fresh t found.sound)) in
    let whole : now ≡ book_after t (Chooses thread fresh) b =
    then ∙ (ap (λ (x : BookValue). attached_book x thread a) after ∙ ap (λ (c : Choice). attached_where_free thread c (after_choice b thread fresh t)) is) in
    let within : (n : ℕ) → has n now.kept ≡ true → has n b.kept ≡ true = λ n h.
    subst (λ xs. has n xs ≡ true) kept (was_there n a mid.kept (subst (λ xs. has n xs ≡ true) (ap (λ (x : BookValue). x.kept) then) h))
    in
    let listed : has a now.list ≡ true = ap (λ (x : BookValue). has a x.list) then ∙ listed_has a mid.kept mid.list can.known in
    chosen_is state seen fast words p q v w b now thread fresh t (Free a) at left tuned found is whole here
    (chosen_there state seen fast words q v w b.kept now a (ap (λ (s : BoardState). s.here) left) here own within listed)

-- ---- a new arena

-- what is put into a record may be
pub returns_new : {P H D : Type 0} (state : P → BoardState) (seen : H → HoldView) (fast : Fast H) (words : D → FlatView) (p : P) (k : KeptArena) (v : FlatView) (a : ℕ) (h : HoldView) (stock : Chunk → ℕ) → (state p).here ≡ Some v → a ≡ k.arena.number →
    IsNew (board_ways state seen fast words) k p → Locks v a h stock → Returns (state p).who h stock k.journal k
returns_new state seen fast words p k v a h stock at num r l =
    let own : v.own ≡ kept_number a = ap (λ (x : FlatView). x.own) (sym (same_some r.owed.view v r.owed.at at)) ∙ (r.owed.is ∙ ap kept_number (sym num)) in
    let none : h.kept ≡ None = l.new own in
    let home : IsHome (tunables_in (state p).here) k.arena.number k = record { number = refl; sound = r.sound; placed = r.placed; heaps = λ other. r.heaps; replays = r.replays } in
    let tuned : h.view.tunables ≡ tunables_in (state p).here = ap (λ (x : FlatView). x.tunables) l.view ∙ sym (ap tunables_in at) in
    record {
      home = subst (λ (n : ℕ). IsHome h.view.tunables n k) (sym (l.arena ∙ num)) (subst (λ (t : Tunables). IsHome t k.arena.number k) (sym tuned) home);
      grew = sym (ap (λ (o : Option KeptArena). journal_in o ++ k.journal) none);
      fits = subst (λ (x : Who). LineFits x h.view) (sym r.writes.0)
          (fits_same r.who v h.view (ap (λ (x : FlatView). x.number) l.view) (ap (λ (x : FlatView). x.added) l.view) (subst (LineFits r.who) (same_some r.writes.1.view v r.writes.1.at at) r.writes.1.is));
      whose = subst (λ (x : Who). AreOf x k.journal) (sym r.writes.0) r.whose;
      covered = λ e. omega (arith, l.backed e, ap (used_in e) none);
      new = λ _. ap (λ (x : FlatView). x.own) l.view ∙ (own ∙ ap kept_number (sym l.arena));
    }

covers_to : (exact : Bool) (n m k : ℕ) → k ≡ m → Covers exact n m → Covers exact n k
covers_to true n m k e c = c ∙ sym e
covers_to false n m k e c = omega (arith, e, c)

same_but : (v : FlatView) (m n : List Block) (o q : List Own) (l : List (List ℕ)) (a b : List Added) → m ≡ n → o ≡ q → a ≡ b →
    let x : FlatView = record v { mine = m; own = o; lists = l; added = a } in x ≡ record v { mine = n; own = q; lists = l; added = b }
same_but v m n o q l a b e f g = cc

pub added_by : {P H D : Type 0} (state : P → BoardState) (seen : H → HoldView) (fast : Fast H) (words : D → FlatView) (p q : P) (thread : ℕ) (k : KeptArena) (v w x : FlatView) (a : ℕ) (h : HoldView) (stock : Chunk → ℕ) →
    (state p).here ≡ Some v → state q ≡ record (state p) { here = Some x } → a ≡ k.arena.number → IsNew (board_ways state seen fast words) k p → Locks v a h stock → Unlocked h stock k.journal k w → StoredOf w a x →
    IsAdded (board_ways state seen fast words) thread p k q
added_by state seen fast words p q thread k v w x a h stock at left num r l u st =
    let own : v.own ≡ kept_number a = ap (λ (y : FlatView). y.own) (sym (same_some r.owed.view v r.owed.at at)) ∙ (r.owed.is ∙ ap kept_number (sym num)) in
    let none : h.kept ≡ None = l.new own in
    let here : (state q).here ≡ Some x = ap (λ (s : BoardState). s.here) left in
    let mine : x.mine ≡ w.mine = ap (λ (y : FlatView). y.mine) st.rest in
    let all : List Added = h.view.added ++ added_to h.arena (journal_in h.kept) k.journal in
    let added : x.added ≡ all = ap (λ (y : FlatView). y.added) st.rest ∙ ap (λ (y : FlatView). y.added) u.rest in
    let front : x ≡ record v { mine = w.mine; own = x.own; lists = x.lists; added = all } =
    st.rest ∙ (ap (λ (y : FlatView). let z : FlatView = record y { own = x.own; lists = x.lists } in z) u.rest
    ∙ ap (λ (y : FlatView). let z : FlatView = record y { mine = w.mine; own = x.own; lists = x.lists; added = all } in z) l.view)
    in
    let same : (n : ℕ) (e : Chunk) → in_mine x (as_chunk_of n e) ≡ in_mine v (as_chunk_of n e) = λ n e. ap (λ (m : List Block). sum_by (as_chunk_of n e) m) mine ∙ (elim (cases_eq n a) [
      | inl is ↦ subst (λ (y : ℕ). in_mine w (as_chunk_of y e) ≡ in_mine v (as_chunk_of y e)) (sym is)
          (omega (arith, subst (λ (y : ℕ). in_mine w (as_chunk_of y e) + stock e ≡ times_used e k.arena) l.arena (u.mine e), r.unused e, l.backed e, ap (used_in e) none))
      | inr ne ↦ u.others n e (λ is. ne (is ∙ l.arena)) ∙ ap (λ (y : FlatView). in_mine y (as_chunk_of n e)) l.view
    ])
    in
    record {
      added = record {
        view = v;
        now = x;
        at = at;
        added = added ∙ (ap (λ (y : FlatView). y.added ++ added_to h.arena (journal_in h.kept) k.journal) l.view
            ∙ (ap (λ (n : ℕ). v.added ++ added_to n (journal_in h.kept) k.journal) (l.arena ∙ num) ∙ ap (λ (o : Option KeptArena). v.added ++ added_to k.arena.number (journal_in o) k.journal) none));
        rest = front ∙ same_but v w.mine x.mine x.own [] x.lists all x.added (sym mine) st.own (sym added);
        left = left;
      };
      there = subst (λ (o : Option FlatView). IsTrue (there_in o k.arena.number)) (sym here)
          (or_more (nat_eq k.arena.number 0) _ (or_less (in_lists k.arena.number x) _ (subst (λ (n : ℕ). IsTrue (in_lists n x)) num st.there)));
      aside = record {
        serves = λ exact hands s.
            let o : Owns exact hands v = subst (Owns exact hands) (same_some s.view v s.at at) s.is in
            record {
              view = x;
              at = here;
              is = record {
                chunks = λ n e. covers_to exact _ _ _ (same n e) (o.chunks n e);
                count = covers_to exact _ _ _ (ap (λ (y : FlatView). y.mapped) front) o.count;
                bytes = covers_to exact _ _ _ (ap (λ (y : FlatView). y.bytes) front) o.bytes;
              };
            };
        notes = λ own others n.
            let m : Notes own v = subst (Notes own) (same_some n.view v n.at at) n.is in
            record { view = x; at = here; is = record { given = omega (arith, m.given, ap (λ (y : FlatView). y.given) front); count = omega (arith, m.count, ap (λ (y : FlatView). y.all_mapped) front) } };
        tunables = ap tunables_in here ∙ (ap (λ (y : FlatView). y.tunables) front ∙ sym (ap tunables_in at));
        writes = λ y e. (
          ap (λ (s : BoardState). s.who) left ∙ e.0,
          record {
            view = x;
            at = here;
            is = fits_more y v x h.arena (journal_in h.kept) k.journal (ap (λ (z : FlatView). z.number) front)
                (added ∙ ap (λ (ys : FlatView). ys.added ++ added_to h.arena (journal_in h.kept) k.journal) l.view)
                (subst (λ (z : Who). AreOf z k.journal) (sym r.writes.0 ∙ e.0) r.whose) (subst (LineFits y) (same_some e.1.view v e.1.at at) e.1.is);
          },
        );
      };
      whole = record { view = x; at = here; is = st.own };
    }

-- ---- the book attaches a thread to a new arena

pub can_attach : (v : FlatView) (b : BookValue) (a : ℕ) → IsBookOf v b → v.own ≡ record { number = a; stored = true } ∷ [] → CanAttach b a
can_attach v b a found own =
    let kept : has a b.kept ≡ true = found.own a (subst (λ (os : List Own). IsTrue (owns_number a os)) (sym own) (or_less (nat_eq a a) false (eq-eqb a a refl))) in
    let out : has a b.list ≡ false = found.sound.outside a kept in
    let cases : (n : ℕ) → attached_to a b.arenas ≡ n → attached_to a b.arenas ≡ 0 = λ n e. elim (cases_eq n 0) [
      | inl zero ↦ e ∙ zero
      | inr some ↦
          let in_list : has a b.list ≡ true = found.sound.attached a (omega (arith, e, some)) in
          absurd cc
    ] in
    record { known = or_more (has a b.list) (has a b.kept) kept; idle = cases (attached_to a b.arenas) refl }

pub stored_by : (v w : FlatView) (b now : BookValue) (thread a : ℕ) → IsBookOf v b → v.own ≡ record { number = a; stored = true } ∷ [] → now ≡ attached_book b thread a →
    w ≡ after_book now (own_after b.kept now.kept v.own) v → StoredOf v a w
stored_by v w b now thread a found own by is =
    let can : CanAttach b a = can_attach v b a found own in
    record {
      own = ap (λ (x : FlatView). x.own) is ∙ (ap (λ (x : BookValue). own_after b.kept x.kept v.own) by ∙ (ap (λ os. own_after b.kept (without a b.kept) os) own ∙ own_undone a true b.kept));
      there = subst (λ (x : FlatView). IsTrue (in_lists a x)) (sym is) (listed_now a now (own_after b.kept now.kept v.own) v (ap (λ (x : BookValue). has a x.list) by ∙ listed_has a b.kept b.list can.known));
      rest = is ∙ ap (λ (x : FlatView). let z : FlatView = record v { own = x.own; lists = x.lists } in z) (sym is);
    }

pub owed_below : (v : FlatView) (n : ℕ) → IsWithin v → v.own ≡ kept_number n → n < v.tunables.records
owed_below v n w own = (w.own n (subst (λ (os : List Own). IsTrue (owns_number n os)) (sym own) (or_less (nat_eq n n) false (eq-eqb n n refl)))).1

pub state_same : (o : Option FlatView) (x : FlatView) (old : BoardState) (polls : ℕ) (who : Who) → o ≡ Some x → polls ≡ old.polls → who ≡ old.who → state_at o polls who ≡ record old { here = Some x }
state_same o x old polls who here e f = cc

-- ---- what is listed

pub listed_below : {P : Type 0} (state : P → BoardState) → AreWithin state → (p : P) (o : Option FlatView) (a : ℕ) → o ≡ (state p).here → IsTrue (listed_in o a) → Here (state p) (λ v. a < v.tunables.records)
listed_below state within p o a e listed =
    let cases : (o : Option FlatView) → (state p).here ≡ o → IsTrue (listed_in o a) → Here (state p) (λ v. a < v.tunables.records) = elim [
      | None ↦ λ at none. absurd cc
      | Some v ↦ λ at is. record { view = v; at = at; is = (within p v at).known a (or_more (nat_eq a 0) _ (or_less (in_lists a v) _ is)) }
    ] in
    cases o (sym e) listed

pub listed_there : (o : Option FlatView) (a : ℕ) → IsTrue (listed_in o a) → IsTrue (there_in o a)
listed_there None a none = absurd cc
listed_there (Some v) a is = or_more (nat_eq a 0) _ (or_less (in_lists a v) _ is)
