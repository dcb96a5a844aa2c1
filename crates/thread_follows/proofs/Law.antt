-- Where each worker keeps its promise, and closing keeps its own, all threads follow.
use Rattle.std.proofs.Common.{◌≡◌, ℕ, ◌+◌, ◌++◌, Bool, cond, List, [], ◌∷◌, length, map, Some, None, refl, sym, ap, ◌∙◌, arith}
use Rattle.std.proofs.lemmas.List.Sums.{sum_by-cons}
use Rattle.std.specs.Prelude.{nat_eq, sum_by}
use Rattle.chunk_tags.specs.declared.block.Block.{Block}
use Rattle.chunk_tags.specs.declared.tunables.Tunables.{Tunables}
use Rattle.arena_rules.specs.PlainArena.{Plain}
use Rattle.arena_core.specs.Journal.{Recorded}
use Rattle.arena_holds.specs.Going.{Told, Held, Opened, Booked, Mapped, Pushed, Freed, Unmapped, Remapped, Posted, Taken}
use Rattle.arena_holds.specs.Places.{KeptArena}
use Rattle.trace_text.specs.declared.trace.Line.{Line}
use Rattle.board_types.specs.Flat.{FlatView}
use Rattle.board_types.specs.Views.{Added}
use Rattle.thread_follows.specs.Listed.{AreAdded, IsHeldEntry, entries_in}
use Rattle.call_told.specs.Deeds.{entries_told}
use Rattle.thread_follows.specs.Follows.{FinalState, ToldRun, FollowsThread, Follows, AllFollow, StandsAt, AllStand, journal_in, placed_by, all_told, weigh_posts, weigh_takes}
use Rattle.thread_follows.specs.Works.{Worker, Works, weight_of, IsPlacedAt, AllPlaced, IsListed, AllListed, IsLawful, AllWork}

-- ---- what a view lists, and what was told

in_front : (b : Bool) (x y : ℕ × Recorded) (xs ys : List (ℕ × Recorded)) → x ≡ y → xs ≡ ys → cond b (x ∷ xs) xs ≡ cond b (y ∷ ys) ys
in_front b x y xs ys e f = ap (λ z. cond b (z ∷ xs) xs) e ∙ ap (λ zs. cond b (y ∷ zs) zs) f

entries_same : (t : Tunables) (a : ℕ) (told : List Told) (xs : List Added) → AreAdded t told xs → entries_in a xs ≡ entries_told a told
entries_same t a [] [] h = refl
entries_same t a (Held b place before entry ∷ told) (x ∷ xs) h =
    ap (λ n. cond (nat_eq n a) ((length x.before, x.entry) ∷ entries_in a xs) (entries_in a xs)) h.0.arena_is
    ∙ in_front (nat_eq b a) (length x.before, x.entry) (place, entry) (entries_in a xs) (entries_told a told) (ap (λ n. (n, x.entry)) h.0.place_is ∙ ap (λ e. (place, e)) h.0.entry_is) (entries_same t a told xs h.1)
entries_same t a (Opened b (Some entry) ∷ told) (x ∷ xs) h =
    ap (λ n. cond (nat_eq n a) ((length x.before, x.entry) ∷ entries_in a xs) (entries_in a xs)) h.0.arena_is
    ∙ in_front (nat_eq b a) (length x.before, x.entry) (0, entry) (entries_in a xs) (entries_told a told) (ap (λ js. (length js, x.entry)) h.0.first ∙ ap (λ e. (0, e)) h.0.entry_is) (entries_same t a told xs h.1)
entries_same t a (Opened b None ∷ told) xs h = entries_same t a told xs h
entries_same t a (Booked change book ∷ told) xs h = entries_same t a told xs h
entries_same t a (Mapped len start ∷ told) xs h = entries_same t a told xs h
entries_same t a (Pushed b ∷ told) xs h = entries_same t a told xs h
entries_same t a (Freed b threshold ∷ told) xs h = entries_same t a told xs h
entries_same t a (Unmapped b ∷ told) xs h = entries_same t a told xs h
entries_same t a (Remapped b len start ∷ told) xs h = entries_same t a told xs h
entries_same t a (Posted tray b full ∷ told) xs h = entries_same t a told xs h
entries_same t a (Taken tray found ∷ told) xs h = entries_same t a told xs h
entries_same t a told xs h = absurd h

stands : (t : Tunables) (arenas : List KeptArena) (x : Added) (a place : ℕ) (before : Plain) (entry : Recorded) → IsHeldEntry t a place before entry x → IsPlacedAt arenas x → StandsAt t (journal_in arenas a) a place before entry
stands t arenas x a place before entry h p = record {
  front = x.before;
  rest = p.rest;
  at = ap (journal_in arenas) (sym h.arena_is) ∙ (p.at ∙ ap (λ y. x.before ++ y ∷ p.rest) h.entry_is);
  place_is = h.place_is;
  replays = h.before_is;
}

all_stand : (t : Tunables) (arenas : List KeptArena) (told : List Told) (xs : List Added) → AreAdded t told xs → AllPlaced arenas xs → AllStand t arenas told
all_stand t arenas [] [] h p = tt
all_stand t arenas (Held b place before entry ∷ told) (x ∷ xs) h p = (stands t arenas x b place before entry h.0 p.0, all_stand t arenas told xs h.1 p.1)
all_stand t arenas (Opened b (Some entry) ∷ told) (x ∷ xs) h p = all_stand t arenas told xs h.1 p.1
all_stand t arenas (Opened b None ∷ told) xs h p = all_stand t arenas told xs h p
all_stand t arenas (Booked change book ∷ told) xs h p = all_stand t arenas told xs h p
all_stand t arenas (Mapped len start ∷ told) xs h p = all_stand t arenas told xs h p
all_stand t arenas (Pushed b ∷ told) xs h p = all_stand t arenas told xs h p
all_stand t arenas (Freed b threshold ∷ told) xs h p = all_stand t arenas told xs h p
all_stand t arenas (Unmapped b ∷ told) xs h p = all_stand t arenas told xs h p
all_stand t arenas (Remapped b len start ∷ told) xs h p = all_stand t arenas told xs h p
all_stand t arenas (Posted tray b full ∷ told) xs h p = all_stand t arenas told xs h p
all_stand t arenas (Taken tray found ∷ told) xs h p = all_stand t arenas told xs h p
all_stand t arenas told xs h p = absurd h

-- ---- one thread

abbrev told_run : Worker → ToldRun
told_run w = record { run = w.run; tolds = w.tolds }

abbrev view_of : Worker → FlatView
view_of w = w.view

follows_thread : (t : Tunables) (f : FinalState) (lines : List Line) (n : ℕ) (w : Worker) → Works t lines w → IsListed f n w.view → FollowsThread t f lines w.run w.tolds
follows_thread t f lines n w works listed = record {
  lines_are = works.lines_are;
  calls = works.calls;
  stand = all_stand t f.arenas (all_told w.tolds) w.view.added works.added listed.placed;
  exactly = λ a. sym (entries_same t a (all_told w.tolds) w.view.added works.added) ∙ (listed.entries a ∙ ap (λ n. placed_by n 0 (journal_in f.arenas a)) works.number);
}

-- ---- all threads

all_follow : (t : Tunables) (f : FinalState) (lines : List Line) (n : ℕ) (ws : List Worker) → AllWork t lines ws → AllListed f n (map view_of ws) → AllFollow t f lines n (map told_run ws)
all_follow t f lines n [] works listed = tt
all_follow t f lines n (w ∷ ws) works listed =
    (sym works.0.number ∙ listed.0.number, (follows_thread t f lines n w works.0 listed.0, all_follow t f lines (n + 1) ws works.1 listed.1))

weighed_posts : (t : Tunables) (lines : List Line) (h : ℕ × Block → ℕ) (ws : List Worker) → AllWork t lines ws → sum_by (weigh_posts h) (map told_run ws) ≡ sum_by (λ (v : FlatView). sum_by (weight_of h) v.posts) (map view_of ws)
weighed_posts t lines h [] works = refl
weighed_posts t lines h (w ∷ ws) works =
    omega (arith, sum_by-cons (weigh_posts h) (told_run w) (map told_run ws), sum_by-cons (λ (v : FlatView). sum_by (weight_of h) v.posts) (view_of w) (map view_of ws), works.0.posts h, weighed_posts t lines h ws works.1)

weighed_takes : (t : Tunables) (lines : List Line) (h : ℕ × Block → ℕ) (ws : List Worker) → AllWork t lines ws → sum_by (weigh_takes h) (map told_run ws) ≡ sum_by (λ (v : FlatView). sum_by (weight_of h) v.takes) (map view_of ws)
weighed_takes t lines h [] works = refl
weighed_takes t lines h (w ∷ ws) works =
    omega (arith, sum_by-cons (weigh_takes h) (told_run w) (map told_run ws), sum_by-cons (λ (v : FlatView). sum_by (weight_of h) v.takes) (view_of w) (map view_of ws), works.0.takes h, weighed_takes t lines h ws works.1)

runs_same : (ws : List Worker) → map (λ (r : ToldRun). r.run) (map told_run ws) ≡ map (λ (w : Worker). w.run) ws
runs_same [] = refl
runs_same (w ∷ ws) = ap (λ rs. w.run ∷ rs) (runs_same ws)

-- Where each worker keeps its promise, and closing keeps its own, the report follows from the journals.
pub follows : (t : Tunables) (f : FinalState) (lines : List Line) (ws : List Worker) → AllWork t lines ws → IsLawful (map view_of ws) f → Follows t f lines (map (λ w. w.run) ws)
follows t f lines ws works lawful = record {
  tolds = map told_run ws;
  runs_are = runs_same ws;
  threads = all_follow t f lines 0 ws works lawful.listed;
  trays = λ h. weighed_posts t lines h ws works ∙ (lawful.trays h ∙ ap (λ (n : ℕ). n + sum_by h f.trays) (sym (weighed_takes t lines h ws works)));
}
