-- What a view lists behind a call over a board, beside what was told in it: entries, posts and takes.
use Rattle.std.proofs.Common.{◌≡◌, ℕ, ◌+◌, ◌++◌, List, [], ◌∷◌, Option, Some, None, Result, Ok, Err, refl, sym, ap, ◌∙◌, subst, arith, append-nil, append_assoc}
use Rattle.chunk_tags.specs.declared.block.Block.{Block}
use Rattle.chunk_tags.specs.declared.tunables.Tunables.{Tunables}
use Rattle.address_space.specs.Ports.{Port}
use Rattle.fast_bins.specs.FastPorts.{Fast}
use Rattle.mapped_chunks.specs.DialPorts.{Dialled, DialStep, Reads, Raises, Maps, Unmaps, Remaps}
use Rattle.mapped_chunks.specs.Mappings.{AllSteps, mapping_bytes, MapsChunk, ChangesLength}
use Rattle.address_space.specs.declared.space.Space.{Space}
use Rattle.arena_choice.specs.Books.{BookValue}
use Rattle.arena_holds.specs.BookChanges.{BookChange, book_after}
use Rattle.consolidate_trim.specs.Outside.{means}
use Rattle.arena_core.specs.Journal.{Recorded}
use Rattle.arena_core.specs.declared.journal.Who.{Who}
use Rattle.arena_holds.specs.Calls.{Call}
use Rattle.arena_holds.specs.Going as going
use Rattle.arena_holds.specs.Going.{Told, Goes, HoldStep, Held, Opened, Booked, Mapped, Pushed, Freed, Unmapped, Remapped, Posted, Taken}
use Rattle.arena_holds.specs.Places.{setting, Standing, KeptArena, with_journal, new_arena}
use Rattle.arena_rules.specs.PlainArena.{Plain}
use Rattle.arena_rules.proofs.Walks.{ends_as_walked}
use Rattle.arena_growth.specs.FirstHeap.{closed_arena}
use Rattle.arena_holds.proofs.Opened.{opened_is}
use Rattle.arena_holds.proofs.PortWalking.{port_walks}
use Rattle.board_types.specs.Views.{Added}
use Rattle.board_types.specs.Views as views
use Rattle.board_types.specs.Flat.{FlatView}
use Rattle.board_calls.specs.Passes.{added_to, after_word}
use Rattle.std.specs.Prelude.{sum_by}
use Rattle.std.proofs.lemmas.List.Sums.{sum_by-cons}
use Rattle.board_calls.specs.Holds.{HoldView, after_book, journal_in, IsHome}
use Rattle.arena_core.specs.Replay.{IsReplay}
use Rattle.thread_places.specs.ListedTold.{posts_told, takes_told, AreAdded}
use Rattle.thread_places.specs.BoardWays.{BoardState, LentOf, GaveOf, WordsOut, BookedOf, PushedOf, AddedOf, PostedOf, TookOf, board_ways}
use Rattle.thread_places.specs.BoardLists.{Lists}
use Rattle.thread_places.specs.BoardLaws.{BoardFacts, Later, later, same_some}

-- nothing was listed
pub record Quiet (old new : BoardState) : Type 0 where
  pub view : FlatView
  pub now : FlatView
  pub at : old.here ≡ Some view
  pub then : new.here ≡ Some now
  pub tuned : now.tunables ≡ view.tunables
  pub added : now.added ≡ view.added
  pub posts : now.posts ≡ view.posts
  pub takes : now.takes ≡ view.takes

weighs : (h : views.Posted → ℕ) (now l mid view told more : List views.Posted) → sum_by h now ≡ sum_by h l + sum_by h told → l ≡ mid → mid ≡ view → more ≡ told → sum_by h now ≡ sum_by h view + sum_by h more
weighs h now l mid view told more e f g k = cc

-- a step that lists nothing, and is told without a deed, in front
quiet_first : (t : Tunables) (old mid new : BoardState) (told more : List Told) → Quiet old mid → Lists t mid new told → ((xs : List Added) → AreAdded t told xs → AreAdded t more xs) → posts_told more ≡ posts_told told → takes_told more ≡ takes_told told →
    Lists t old new more
quiet_first t old mid new told more q l add post take =
    let same : l.view ≡ q.now = same_some l.view q.now l.at q.then in
    record {
      view = q.view;
      now = l.now;
      more = l.more;
      at = q.at;
      tuned = sym q.tuned ∙ (ap (λ (v : FlatView). v.tunables) (sym same) ∙ l.tuned);
      then = l.then;
      added = l.added ∙ ap (λ xs. xs ++ l.more) (ap (λ (v : FlatView). v.added) same ∙ q.added);
      are = add l.more l.are;
      posts = λ h. weighs h l.now.posts l.view.posts q.now.posts q.view.posts (posts_told told) (posts_told more) (l.posts h) (ap (λ (v : FlatView). v.posts) same) q.posts post;
      takes = λ h. weighs h l.now.takes l.view.takes q.now.takes q.view.takes (takes_told told) (takes_told more) (l.takes h) (ap (λ (v : FlatView). v.takes) same) q.takes take;
    }

-- an entry in front
entry_first : (t : Tunables) (old mid new : BoardState) (told : List Told) (x : Told) (view now : FlatView) (e : Added) → old.here ≡ Some view → mid.here ≡ Some now → now.tunables ≡ view.tunables → now.added ≡ view.added ++ e ∷ [] → now.posts ≡ view.posts → now.takes ≡ view.takes →
    Lists t mid new told → ((xs : List Added) → view.tunables ≡ t → AreAdded t told xs → AreAdded t (x ∷ told) (e ∷ xs)) → posts_told (x ∷ told) ≡ posts_told told → takes_told (x ∷ told) ≡ takes_told told → Lists t old new (x ∷ told)
entry_first t old mid new told x view now e at then tuned added posts takes l add post take =
    let same : l.view ≡ now = same_some l.view now l.at then in
    let is : view.tunables ≡ t = sym tuned ∙ (ap (λ (v : FlatView). v.tunables) (sym same) ∙ l.tuned) in
    record {
      view = view;
      now = l.now;
      more = e ∷ l.more;
      at = at;
      tuned = is;
      then = l.then;
      added = l.added ∙ (ap (λ xs. xs ++ l.more) (ap (λ (v : FlatView). v.added) same ∙ added) ∙ append_assoc view.added (e ∷ []) l.more);
      are = add l.more is l.are;
      posts = λ h. weighs h l.now.posts l.view.posts now.posts view.posts (posts_told told) (posts_told (x ∷ told)) (l.posts h) (ap (λ (v : FlatView). v.posts) same) posts post;
      takes = λ h. weighs h l.now.takes l.view.takes now.takes view.takes (takes_told told) (takes_told (x ∷ told)) (l.takes h) (ap (λ (v : FlatView). v.takes) same) takes take;
    }

-- what stands behind the same list is the same
same_behind : {A : Type 0} (xs ys zs : List A) → xs ++ ys ≡ xs ++ zs → ys ≡ zs
same_behind [] ys zs e = e
same_behind (x ∷ xs) ys zs e = same_behind xs ys zs cc

-- ---- a hold

one_entry : {P H D K : Type 0} (state : P → BoardState) (seen : H → HoldView) (fast : Fast H) (dials : Dialled H) (kernel : Port K) (words : D → FlatView) (word : Dialled D) → BoardFacts seen fast dials words word →
    {t : Tunables} {who : Who} {a place : ℕ} {act : _} {cache left : _} {before : _} {entry : Recorded} {told : List Told} (o p : Standing P K) (z : P) →
    HoldStep (setting (board_ways state seen fast words) (means fast dials kernel) word) t who a act cache o place before entry left p → Lists t (state p.places) (state z) told → Lists t (state o.places) (state z) (Held a place before entry ∷ told)
one_entry state seen fast dials kernel words word f {t = t} {a = a} {place = place} {before = before} {entry = entry} {told = told} o p z h l =
    let was : KeptArena = with_journal before h.journal in
    let walk = port_walks {m = means fast dials kernel} h.walk in
    let y : Later (seen h.hold) (seen h.last_hold) = later seen fast dials words word f walk in
    let lent : LentOf (state o.places) a (seen h.hold) (fast.stock h.hold) (Some was) (state h.lending) = h.lent in
    let gave : GaveOf (state h.lending) (seen h.last_hold) (fast.stock h.last_hold) (with_journal h.took.arena (h.journal ++ entry ∷ [])) (state p.places) = h.gave in
    let arena : (seen h.last_hold).arena ≡ a = y.arena ∙ lent.locks.arena in
    let kept : (seen h.last_hold).kept ≡ Some was = y.kept ∙ lent.was in
    let entries : gave.entries ≡ entry ∷ [] = same_behind h.journal gave.entries (entry ∷ [])
    (sym (gave.returns.grew ∙ ap (λ (k : Option KeptArena). journal_in k ++ gave.entries) kept)) in
    let e : Added = record { arena = a; before = h.journal; entry = entry } in
    let home : IsHome lent.view.tunables a was = lent.locks.home was lent.was in
    let added : gave.view.added ≡ lent.view.added ++ e ∷ [] =
    ap (λ (v : FlatView). v.added) gave.unlocked.rest
    ∙ (ap (λ xs. xs ++ added_to (seen h.last_hold).arena (journal_in (seen h.last_hold).kept) gave.entries) (y.added ∙ ap (λ (v : FlatView). v.added) lent.locks.view)
    ∙ (ap (λ n. lent.view.added ++ added_to n (journal_in (seen h.last_hold).kept) gave.entries) arena
    ∙ (ap (λ k. lent.view.added ++ added_to a (journal_in k) gave.entries) kept ∙ ap (λ es. lent.view.added ++ added_to a h.journal es) entries))) in
    entry_first t (state o.places) (state p.places) (state z) told (Held a place before entry) lent.view gave.view e lent.at (ap (λ (s : BoardState). s.here) gave.left)
    (ap (λ (v : FlatView). v.tunables) gave.unlocked.rest ∙ (y.tunables ∙ ap (λ (v : FlatView). v.tunables) lent.locks.view)) added
    (ap (λ (v : FlatView). v.posts) gave.unlocked.rest ∙ (y.posts ∙ ap (λ (v : FlatView). v.posts) lent.locks.view))
    (ap (λ (v : FlatView). v.takes) gave.unlocked.rest ∙ (y.takes ∙ ap (λ (v : FlatView). v.takes) lent.locks.view))
    l (λ xs tuned are. (record { arena_is = refl; place_is = h.at; before_is = subst (λ (x : Tunables). IsReplay x (new_arena x a) h.journal before) tuned home.replays; entry_is = refl }, are)) refl refl

-- a new arena
opened_first : {P H D K : Type 0} (state : P → BoardState) (seen : H → HoldView) (fast : Fast H) (dials : Dialled H) (kernel : Port K) (words : D → FlatView) (word : Dialled D) →
    {t : Tunables} {who : Who} {a bytes : ℕ} {entry : Recorded} (o p : Standing P K) (z : P) (told : List Told) →
    going.OpenStep (setting (board_ways state seen fast words) (means fast dials kernel) word) t who a bytes o entry p → Lists t (state p.places) (state z) told → Lists t (state o.places) (state z) (Opened a (Some entry) ∷ told)
opened_first state seen fast dials kernel words word {t = t} {a = a} {bytes = bytes} {entry = entry} o p z told h l =
    let ad : AddedOf (state o.places) (with_journal h.arena (entry ∷ [])) (state p.places) = h.added in
    let is = opened_is t bytes (closed_arena t a) h.arena entry.said (ends_as_walked h.walk) in
    let number : h.arena.number ≡ a = ap (λ (x : Plain). x.number) is.1 in
    let e : Added = record { arena = h.arena.number; before = []; entry = entry } in
    entry_first t (state o.places) (state p.places) (state z) told (Opened a (Some entry)) ad.view ad.now e ad.at (ap (λ (s : BoardState). s.here) ad.left) (ap (λ (v : FlatView). v.tunables) ad.rest) ad.added (ap (λ (v : FlatView). v.posts) ad.rest) (ap (λ (v : FlatView). v.takes) ad.rest)
    l (λ xs tuned are. (record { arena_is = number; first = refl; entry_is = refl }, are)) refl refl

-- ---- the words

-- a step lists nothing
record SameLists (v w : FlatView) : Type 0 where
  tuned : w.tunables ≡ v.tunables
  added : w.added ≡ v.added
  posts : w.posts ≡ v.posts
  takes : w.takes ≡ v.takes

word_lists : (s : DialStep) (v : FlatView) → SameLists v (after_word s v)
word_lists (Reads w n) v = record { tuned = refl; added = refl; posts = refl; takes = refl }
word_lists (Raises size) v = record { tuned = refl; added = refl; posts = refl; takes = refl }
word_lists (Maps len) v = record { tuned = refl; added = refl; posts = refl; takes = refl }
word_lists (Unmaps len) v = record { tuned = refl; added = refl; posts = refl; takes = refl }
word_lists (Remaps old_len new_len) v = record { tuned = refl; added = refl; posts = refl; takes = refl }

steps_lists : {H D : Type 0} (seen : H → HoldView) (fast : Fast H) (dials : Dialled H) (words : D → FlatView) (word : Dialled D) → BoardFacts seen fast dials words word →
    (ss : List DialStep) (d e : D) → AllSteps word d ss e → SameLists (words d) (words e)
steps_lists seen fast dials words word f [] d e walk = subst (λ x. SameLists (words d) (words x)) (sym walk) (record { tuned = refl; added = refl; posts = refl; takes = refl })
steps_lists seen fast dials words word f (s ∷ ss) d e walk =
    let one : SameLists (words d) (words walk.next) = subst (λ (v : FlatView). SameLists (words d) v) (sym (f.word_steps d walk.next s walk.step).is) (word_lists s (words d)) in
    let rest : SameLists (words walk.next) (words e) = steps_lists seen fast dials words word f ss walk.next e walk.rest in
    record { tuned = rest.tuned ∙ one.tuned; added = rest.added ∙ one.added; posts = rest.posts ∙ one.posts; takes = rest.takes ∙ one.takes }

-- the words were lent and came back behind some steps
quiet_words : {H D : Type 0} (seen : H → HoldView) (fast : Fast H) (dials : Dialled H) (words : D → FlatView) (word : Dialled D) → BoardFacts seen fast dials words word →
    (old lending new : BoardState) (d e : D) (ss : List DialStep) → WordsOut old (words d) lending → AllSteps word d ss e → new ≡ record lending { here = Some (words e) } → Quiet old new
quiet_words seen fast dials words word f old lending new d e ss out walk back =
    let l : SameLists (words d) (words e) = steps_lists seen fast dials words word f ss d e walk in
    record { view = words d; now = words e; at = out.told; then = ap (λ (s : BoardState). s.here) back; tuned = l.tuned; added = l.added; posts = l.posts; takes = l.takes }

one_step : {D : Type 0} (word : Dialled D) (d e : D) (s : DialStep) → word.step d s e → AllSteps word d (s ∷ []) e
one_step word d e s h = record { next = e; step = h; rest = refl }

quiet_booked : (old new : BoardState) (change : BookChange) (book : BookValue) → BookedOf old change book new → Quiet old new
quiet_booked old new change book h = record { view = h.view; now = after_book (book_after h.view.tunables change book) h.own h.view; at = h.at; then = ap (λ (s : BoardState). s.here) h.left; tuned = refl; added = refl; posts = refl; takes = refl }

quiet_pushed : (old new : BoardState) (b : Block) → PushedOf old b new → Quiet old new
quiet_pushed old new b h = record {
  view = h.view;
  now = h.now;
  at = h.at;
  then = ap (λ (s : BoardState). s.here) h.left;
  tuned = ap (λ (v : FlatView). v.tunables) h.rest;
  added = ap (λ (v : FlatView). v.added) h.rest;
  posts = ap (λ (v : FlatView). v.posts) h.rest;
  takes = ap (λ (v : FlatView). v.takes) h.rest;
}

-- how a mapping was asked for, at the words
mapped_steps : {K D : Type 0} (port : Port K) (word : Dialled D) (old new : Space K × D) (len : ℕ) (block : Option Block) → MapsChunk port word old len block new → (ss : List DialStep) × AllSteps word old.1 ss new.1
mapped_steps port word old new len None h = ([], h.refused)
mapped_steps port word old new len (Some b) h = (Maps len ∷ [], one_step word old.1 new.1 (Maps len) h.counted)

changed_steps : {K D : Type 0} (port : Port K) (word : Dialled D) (old new : Space K × D) (b : Block) (len : ℕ) (answer : Result Block Block) → ChangesLength port word old b len answer new → (ss : List DialStep) × AllSteps word old.1 ss new.1
changed_steps port word old new b len (Err c) h = ([], h.refused.1)
changed_steps port word old new b len (Ok c) h = (Remaps (mapping_bytes b) len ∷ [], one_step word old.1 new.1 (Remaps (mapping_bytes b) len) h.counted)

post_first : (t : Tunables) (old mid new : BoardState) (tray : ℕ) (b : Block) (full : Option ℕ) (told : List Told) → PostedOf old tray b full mid → Lists t mid new told → Lists t old new (Posted tray b full ∷ told)
post_first t old mid new tray b None told h l =
    let same : l.view ≡ h.now = same_some l.view h.now l.at (ap (λ (s : BoardState). s.here) h.left) in
    let x : views.Posted = record { tray = tray; block = b } in
    record {
      view = h.view;
      now = l.now;
      more = l.more;
      at = h.at;
      tuned = sym (ap (λ (v : FlatView). v.tunables) h.rest) ∙ (ap (λ (v : FlatView). v.tunables) (sym same) ∙ l.tuned);
      then = l.then;
      added = l.added ∙ ap (λ xs. xs ++ l.more) (ap (λ (v : FlatView). v.added) same ∙ ap (λ (v : FlatView). v.added) h.rest);
      are = l.are;
      posts = λ w. omega (arith, l.posts w, ap (λ (v : FlatView). sum_by w v.posts) same, ap (λ (v : FlatView). sum_by w v.posts) h.rest, sum_by-cons w x h.view.posts, sum_by-cons w x (posts_told told));
      takes = λ w. weighs w l.now.takes l.view.takes h.now.takes h.view.takes (takes_told told) (takes_told told) (l.takes w) (ap (λ (v : FlatView). v.takes) same) (ap (λ (v : FlatView). v.takes) h.rest) refl;
    }
post_first t old mid new tray b (Some found) told h l =
    quiet_first t old mid new told (Posted tray b (Some found) ∷ told)
    (record { view = h.view; now = h.now; at = h.at; then = ap (λ (s : BoardState). s.here) h.left; tuned = ap (λ (v : FlatView). v.tunables) h.rest; added = ap (λ (v : FlatView). v.added) h.rest; posts = ap (λ (v : FlatView). v.posts) h.rest; takes = ap (λ (v : FlatView). v.takes) h.rest })
    l (λ xs are. are) refl refl

take_first : (t : Tunables) (old mid new : BoardState) (tray polls : ℕ) (found : Result Block ℕ) (told : List Told) → TookOf old tray polls found mid → Lists t mid new told → Lists t old new (Taken tray found ∷ told)
take_first t old mid new tray polls (Ok b) told h l =
    let same : l.view ≡ h.now = same_some l.view h.now l.at (ap (λ (s : BoardState). s.here) h.left) in
    let x : views.Posted = record { tray = tray; block = b } in
    record {
      view = h.view;
      now = l.now;
      more = l.more;
      at = h.at;
      tuned = sym (ap (λ (v : FlatView). v.tunables) h.rest) ∙ (ap (λ (v : FlatView). v.tunables) (sym same) ∙ l.tuned);
      then = l.then;
      added = l.added ∙ ap (λ xs. xs ++ l.more) (ap (λ (v : FlatView). v.added) same ∙ ap (λ (v : FlatView). v.added) h.rest);
      are = l.are;
      takes = λ w. omega (arith, l.takes w, ap (λ (v : FlatView). sum_by w v.takes) same, ap (λ (v : FlatView). sum_by w v.takes) h.rest, sum_by-cons w x h.view.takes, sum_by-cons w x (takes_told told));
      posts = λ w. weighs w l.now.posts l.view.posts h.now.posts h.view.posts (posts_told told) (posts_told told) (l.posts w) (ap (λ (v : FlatView). v.posts) same) (ap (λ (v : FlatView). v.posts) h.rest) refl;
    }
take_first t old mid new tray polls (Err found) told h l =
    quiet_first t old mid new told (Taken tray (Err found) ∷ told)
    (record { view = h.view; now = h.now; at = h.at; then = ap (λ (s : BoardState). s.here) h.left; tuned = ap (λ (v : FlatView). v.tunables) h.rest; added = ap (λ (v : FlatView). v.added) h.rest; posts = ap (λ (v : FlatView). v.posts) h.rest; takes = ap (λ (v : FlatView). v.takes) h.rest })
    l (λ xs are. are) refl refl

-- ---- a call

lists_here : (t : Tunables) (st : BoardState) (v : FlatView) → st.here ≡ Some v → v.tunables ≡ t → Lists t st st []
lists_here t st v at tuned = record { view = v; now = v; more = []; at = at; tuned = tuned; then = at; added = sym (append-nil v.added); are = tt; posts = λ h. omega arith; takes = λ h. omega arith }

pub goes_listed : {P H D K A : Type 0} (state : P → BoardState) (seen : H → HoldView) (fast : Fast H) (dials : Dialled H) (kernel : Port K) (words : D → FlatView) (word : Dialled D) → BoardFacts seen fast dials words word →
    {t : Tunables} {who : Who} {c q : Call A} {o z : Standing P K} {told : List Told} (w : FlatView) → (state z.places).here ≡ Some w → w.tunables ≡ t →
    Goes (setting (board_ways state seen fast words) (means fast dials kernel) word) t who c o told q z → Lists t (state o.places) (state z.places) told
goes_listed state seen fast dials kernel words word f {t = t} {z = z} w end tuned going.here = lists_here t (state z.places) w end tuned
goes_listed state seen fast dials kernel words word f {t = t} {z = z} w end tuned (going.idled {o = o} {p = p} {told = told} i a) =
    subst (λ (s : BoardState). Lists t s (state z.places) told) i.idle (goes_listed state seen fast dials kernel words word f w end tuned a)
goes_listed state seen fast dials kernel words word f {t = t} {z = z} w end tuned (going.held {o = o} {p = p} h a) =
    one_entry state seen fast dials kernel words word f o p z.places h (goes_listed state seen fast dials kernel words word f w end tuned a)
goes_listed state seen fast dials kernel words word f {t = t} {z = z} w end tuned (going.held_free {o = o} {p = p} g h a) =
    one_entry state seen fast dials kernel words word f o p z.places h (goes_listed state seen fast dials kernel words word f w end tuned a)
goes_listed state seen fast dials kernel words word f {t = t} {z = z} w end tuned (going.opened {a = a} {bytes = bytes} {o = o} {p = p} {told = told} {entry = entry} h rest) =
    opened_first state seen fast dials kernel words word o p z.places told h (goes_listed state seen fast dials kernel words word f w end tuned rest)
goes_listed state seen fast dials kernel words word f {t = t} {z = z} w end tuned (going.refused {o = o} {p = p} h a) =
    quiet_first t (state o.places) (state p.places) (state z.places) _ _ (quiet_booked (state o.places) (state p.places) _ h.book h.undone) (goes_listed state seen fast dials kernel words word f w end tuned a) (λ xs are. are) refl refl
goes_listed state seen fast dials kernel words word f {t = t} {z = z} w end tuned (going.booked {change = change} {o = o} {p = p} {book = book} h a) =
    quiet_first t (state o.places) (state p.places) (state z.places) _ _ (quiet_booked (state o.places) (state p.places) change book h.booked) (goes_listed state seen fast dials kernel words word f w end tuned a) (λ xs are. are) refl refl
goes_listed state seen fast dials kernel words word f {t = t} {z = z} w end tuned (going.mapped {len = len} {o = o} {p = p} h a) =
    let steps = mapped_steps kernel word (o.space, h.dial) (p.space, h.last_dial) len h.block h.maps in
    quiet_first t (state o.places) (state p.places) (state z.places) _ _ (quiet_words seen fast dials words word f (state o.places) (state h.lending) (state p.places) h.dial h.last_dial steps.0 h.lent steps.1 h.gave)
    (goes_listed state seen fast dials kernel words word f w end tuned a) (λ xs are. are) refl refl
goes_listed state seen fast dials kernel words word f {t = t} {z = z} w end tuned (going.pushed {b = b} {o = o} {p = p} h a) =
    quiet_first t (state o.places) (state p.places) (state z.places) _ _ (quiet_pushed (state o.places) (state p.places) b h.pushed) (goes_listed state seen fast dials kernel words word f w end tuned a) (λ xs are. are) refl refl
goes_listed state seen fast dials kernel words word f {t = t} {z = z} w end tuned (going.freed {b = b} {o = o} {p = p} h a) =
    quiet_first t (state o.places) (state p.places) (state z.places) _ _ (quiet_words seen fast dials words word f (state o.places) (state h.lending) (state p.places) h.dial h.last_dial _ h.lent h.frees.steps h.gave)
    (goes_listed state seen fast dials kernel words word f w end tuned a) (λ xs are. are) refl refl
goes_listed state seen fast dials kernel words word f {t = t} {z = z} w end tuned (going.unmapped {b = b} {o = o} {p = p} h a) =
    quiet_first t (state o.places) (state p.places) (state z.places) _ _
    (quiet_words seen fast dials words word f (state o.places) (state h.lending) (state p.places) h.dial h.last_dial (Unmaps (mapping_bytes b) ∷ []) h.lent (one_step word h.dial h.last_dial (Unmaps (mapping_bytes b)) h.unmaps.counted) h.gave)
    (goes_listed state seen fast dials kernel words word f w end tuned a) (λ xs are. are) refl refl
goes_listed state seen fast dials kernel words word f {t = t} {z = z} w end tuned (going.remapped {b = b} {len = len} {o = o} {p = p} h a) =
    let steps = changed_steps kernel word (o.space, h.dial) (p.space, h.last_dial) b len h.answer h.changes in
    quiet_first t (state o.places) (state p.places) (state z.places) _ _ (quiet_words seen fast dials words word f (state o.places) (state h.lending) (state p.places) h.dial h.last_dial steps.0 h.lent steps.1 h.gave)
    (goes_listed state seen fast dials kernel words word f w end tuned a) (λ xs are. are) refl refl
goes_listed state seen fast dials kernel words word f {t = t} {z = z} w end tuned (going.posted {tray = tray} {b = b} {o = o} {p = p} {full = full} h a) =
    post_first t (state o.places) (state p.places) (state z.places) tray b full _ h.posted (goes_listed state seen fast dials kernel words word f w end tuned a)
goes_listed state seen fast dials kernel words word f {t = t} {z = z} w end tuned (going.taken {tray = tray} {o = o} {p = p} {found = found} h a) =
    take_first t (state o.places) (state p.places) (state z.places) tray (state o.places).polls found _ h.took (goes_listed state seen fast dials kernel words word f w end tuned a)
