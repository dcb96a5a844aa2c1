-- A search in an arena that is chosen, and in another one: parts in a row.
use Rattle.std.proofs.Common.{◌≡◌, ℕ, ◌≤◌, Bool, true, false, cond, List, [], ◌∷◌, Option, Some, None, refl, sym, ap, ◌∙◌, subst, arith}
use Rattle.std.specs.Prelude.{is_some, nat_eq, Result, Ok, Err, IfOk, OnErr}
use Rattle.chunk_tags.specs.declared.block.Block.{Block}
use Rattle.chunk_tags.specs.declared.tunables.Tunables.{Tunables}
use Rattle.address_space.specs.declared.space.Space.{Space}
use Rattle.address_space.specs.Ports.{Rose}
use Rattle.address_space.specs.Spaces.{space_refusals}
use Rattle.thread_cache.specs.Caches.{CacheValue, is_open}
use Rattle.arena_rules.specs.Rules.{windows_of}
use Rattle.arena_growth.proofs.Refusals.{rose_from}
use Rattle.arena_core.specs.declared.journal.Act.{Act}
use Rattle.arena_core.specs.declared.journal.Who.{Who}
use Rattle.arena_choice.specs.Books.{BookValue}
use Rattle.arena_choice.specs.Choices.{choice_of}
use Rattle.arena_choice.specs.declared.choice.Choice.{Choice}
use Rattle.arena_holds.specs.declared.holding.Search.{Search}
use Rattle.arena_holds.specs.declared.searching.Tried.{Tried}
use Rattle.arena_holds.specs.BookChanges.{Chooses, Reuses}
use Rattle.arena_holds.specs.Calls.{Call, Done, Books, then_call, hold_end}
use Rattle.arena_holds.specs.Going as going
use Rattle.arena_holds.specs.Going.{Told, Goes, Does, Held, Booked, here}
use Rattle.arena_holds.specs.Holding.{Gets, SearchesHeld, Finds, FindsChosen, OpensArena, chosen_with}
use Rattle.arena_holds.specs.Places.{PlaceWays, Setting, Standing, standing, Carries, IsServed, both_of, weight_of, in_cache}
use Rattle.arena_holds.specs.Returning.{IsBooked, IsChosen}
use Rattle.arena_holds.specs.Searching as trees
use Rattle.arena_holds.specs.Searching.{Searched, Chosen, search_end, found_in, avoided, tried_again, or_in_mapping}
use Rattle.arena_holds.proofs.Carrying.{SameLaw, FewerLaw, carries_as, carries_then, served_after, served_fewer}
use Rattle.arena_holds.proofs.Going.{does_here, does_then, does_last}
use Rattle.arena_holds.proofs.Opened.{carries_hidden, carries_aside}

pub ok_map : {A E : Type 0} {P Q : A → Type 0} (r : Result A E) → ((x : A) → P x → Q x) → IfOk r P → IfOk r Q
ok_map (Ok x) f h = f x h
ok_map (Err e) f h = tt

pub err_map : {A E P Q : Type 0} (r : Result A E) → (P → Q) → OnErr r P → OnErr r Q
err_map (Ok x) f h = tt
err_map (Err e) f h = f h

pub is_none : {A : Type 0} (o : Option A) → is_some o ≡ false → o ≡ None
is_none (Some x) e = absurd cc
is_none None e = refl

-- ---- what a search gives

gets_of : {P H D K : Type 0} {s : Setting P H D K} {t : Tunables} {who : Who} {rules : Call Searched} {act : Act} {cache left : CacheValue} {o z : Standing P K} {place : ℕ} {block : Option Block} →
    Finds s t who rules act cache o place block left z → Gets s act cache o block left z
gets_of f = f.gets

finds_of : {P H D K : Type 0} {s : Setting P H D K} {t : Tunables} {who : Who} {rules : Call Searched} {act : Act} {cache left : CacheValue} {o z : Standing P K} (place : ℕ) {block : Option Block} →
    Does s t who rules o (search_end place block left) z → (block ≡ None → Rose (space_refusals s.means.kernel o.space) (space_refusals s.means.kernel z.space)) → Gets s act cache o block left z →
    Finds s t who rules act cache o place block left z
finds_of place does refused g = record { does = does; gets = g; refused = refused }

-- a first part gave nothing, or nobody saw it
gets_after : {P H D K : Type 0} {s : Setting P H D K} {act : Act} {cache mid left : CacheValue} {o p z : Standing P K} {block : Option Block} →
    space_refusals s.means.kernel o.space ≤ space_refusals s.means.kernel p.space → is_open mid ≡ is_open cache → Carries s.ways true (in_cache cache) o (in_cache mid) p → Gets s act mid p block left z → Gets s act cache o block left z
gets_after later opens carries g = record {
  held = g.held;
  fits = g.fits;
  aligned = g.aligned;
  later = omega (arith, later, g.later);
  opens = g.opens ∙ opens;
  carries = carries_then carries g.carries;
}

none_carries : {P H D K : Type 0} {ways : PlaceWays P H D} {o p : Standing P K} (cache mid : CacheValue) (block : Option Block) → SameLaw ways → block ≡ None →
    Carries ways true (in_cache cache) o (both_of (weight_of block) (in_cache mid)) p → Carries ways true (in_cache cache) o (in_cache mid) p
none_carries {ways = ways} {o = o} {p = p} cache mid block same none c =
    let plain : Carries ways true (in_cache cache) o (both_of (weight_of None) (in_cache mid)) p = subst (λ (b : Option Block). Carries ways true (in_cache cache) o (both_of (weight_of b) (in_cache mid)) p) none c in
    carries_as same (in_cache cache) (in_cache mid) (λ w. refl) (λ w. omega arith) plain

-- nothing was found
gets_none : {P H D K : Type 0} {s : Setting P H D K} {act : Act} {cache : CacheValue} {o z : Standing P K} → SameLaw s.ways → space_refusals s.means.kernel o.space ≤ space_refusals s.means.kernel z.space →
    Carries s.ways true (in_cache cache) o (in_cache cache) z → Gets s act cache o None cache z
gets_none {cache = cache} same later carries = record {
  held = tt;
  fits = tt;
  aligned = tt;
  later = later;
  opens = refl;
  carries = carries_as same (in_cache cache) (both_of (weight_of None) (in_cache cache)) (λ w. refl) (λ w. omega arith) carries;
}

-- ---- what the next part needs

pub served_next : {P H D K : Type 0} {ways : PlaceWays P H D} {t : Tunables} {o z : Standing P K} (cache left : CacheValue) (block : Option Block) → SameLaw ways → FewerLaw ways →
    IsServed ways t (in_cache cache) o → Carries ways true (in_cache cache) o (both_of (weight_of block) (in_cache left)) z → IsServed ways t (in_cache left) z
served_next cache left block same fewer s c = served_fewer fewer (in_cache left) (λ w. omega arith) (served_after same s c)

-- where a mapping is asked for
pub served_mapping : {P H D K : Type 0} {ways : PlaceWays P H D} {t : Tunables} {o : Standing P K} (cache : CacheValue) → FewerLaw ways → IsServed ways t (in_cache cache) o → IsServed ways (ways.tunables o.places) (λ weigh. 0) o
served_mapping {o = o} cache fewer s =
    let none = served_fewer fewer (λ weigh. 0) (λ w. omega arith) s in
    record { served = none.served; others = none.others; notes = none.notes; tunables = refl; windows = none.windows ∙ ap windows_of (sym none.tunables); whole = none.whole }

-- ---- one arena

pub finds_held : {P H D K : Type 0} {s : Setting P H D K} {t : Tunables} {who : Who} {a : ℕ} {act : Act} {cache left : CacheValue} {o z : Standing P K} {place : ℕ} {block : Option Block} →
    SearchesHeld s t who a act cache o place block left z → Finds s t who (trees.search_in a act cache) act cache o place block left z
finds_held {s = s} {t = t} {who = who} {a = a} {act = act} {cache = cache} {left = left} {o = o} {z = z} {place = place} h =
    let told : List Told = Held a place h.before h.entry ∷ [] in
    finds_of place
    (record {
      told = told;
      goes = subst (λ (b : Option Block). Goes s t who (trees.search_in a act cache) o told (Done (search_end place b left)) z) (sym h.block_is)
          (going.held {next = λ place ended left. Done (found_in a act (hold_end place ended left))} {p = z} h.step here);
    })
    h.refused h.gets

-- one that was chosen
pub chosen_in : {P H D K : Type 0} {s : Setting P H D K} {t : Tunables} {who : Who} {act : Act} {cache left : CacheValue} {o z : Standing P K} (a : ℕ) (found : Search) →
    Finds s t who (trees.search_in a act cache) act cache o found.hold found.block left z → FindsChosen s t who (trees.search_chosen a act cache) act cache o (Some (record { arena = a; search = found })) left z
chosen_in a found f = record { does = does_last (λ x. Some (a, x)) f.does; none = λ e. absurd cc; gets = gets_of f; refused = λ some none. f.refused none }

-- a new one
pub chosen_new : {P H D K : Type 0} {s : Setting P H D K} {t : Tunables} {who : Who} {bytes : ℕ} {act : Act} {cache left : CacheValue} {o p z : Standing P K} (a : ℕ) (found : Search) → OpensArena s t who a bytes o true p →
    Finds s t who (trees.search_in a act cache) act cache p found.hold found.block left z → FindsChosen s t who (trees.search_new a bytes act cache) act cache o (Some (record { arena = a; search = found })) left z
chosen_new {s = s} {act = act} {cache = cache} {o = o} {p = p} {z = z} a found opens f = record {
  does = does_then (λ opened. cond opened (trees.search_chosen a act cache) (Done None)) opens.does (does_last (λ x. Some (a, x)) f.does);
  none = λ e. absurd cc;
  gets = gets_after opens.later refl (opens.carries (in_cache cache)) (gets_of f);
  refused = λ some none. rose_from (space_refusals s.means.kernel o.space) (space_refusals s.means.kernel p.space) (space_refusals s.means.kernel z.space) opens.later (f.refused none);
}

pub chosen_refused : {P H D K : Type 0} {s : Setting P H D K} {t : Tunables} {who : Who} {bytes : ℕ} {act : Act} {cache : CacheValue} {o z : Standing P K} (a : ℕ) → SameLaw s.ways → OpensArena s t who a bytes o false z →
    FindsChosen s t who (trees.search_new a bytes act cache) act cache o None cache z
chosen_refused {act = act} {cache = cache} {z = z} a same opens = record {
  does = does_then (λ opened. cond opened (trees.search_chosen a act cache) (Done None)) opens.does (does_here None z);
  none = λ e. refl;
  gets = gets_none same opens.later (opens.carries (in_cache cache));
  refused = λ some none. absurd cc;
}

-- one that others use too
pub chosen_reused : {P H D K : Type 0} {s : Setting P H D K} {t : Tunables} {who : Who} {start a : ℕ} (fresh : Bool) {act : Act} {cache left : CacheValue} {o : Standing P K} {p z : P} {space : Space K} (found : Search) → SameLaw s.ways →
    s.ways.free o.places start (avoided fresh) a → SearchesHeld s t who a act cache o found.hold found.block left (standing p space) → IsBooked s.ways p (Reuses who.thread a) z →
    FindsChosen s t who (trees.search_reused who.thread fresh start act cache) act cache o (Some (record { arena = a; search = found })) left (standing z space)
chosen_reused {s = s} {t = t} {who = who} {start = start} {a = a} fresh {act = act} {cache = cache} {left = left} {o = o} {p = p} {z = z} {space = space} found same free h booked =
    let told : List Told = Held a found.hold h.before h.entry ∷ Booked (Reuses who.thread a) booked.book ∷ [] in
    let g : Gets s act cache o found.block left (standing p space) = h.gets in
    record {
      does = record {
        told = told;
        goes = subst (λ (b : Option Block). Goes s t who (trees.search_reused who.thread fresh start act cache) o told (Done (Some (a, search_end found.hold b left))) (standing z space)) (sym h.block_is)
            (going.held_free {next = λ a place ended left. Books (Reuses who.thread a) (λ book. Done (Some (a, found_in a act (hold_end place ended left))))} {p = standing p space} free h.step
            (going.booked {next = λ book. Done (Some (a, found_in a act (hold_end found.hold h.entry.ended left)))} {p = standing z space} (record { booked = booked.booked; space = refl }) here));
      };
      none = λ e. absurd cc;
      gets = record { held = g.held; fits = g.fits; aligned = g.aligned; later = g.later; opens = g.opens; carries = carries_then g.carries (carries_hidden same booked.unseen space (both_of (weight_of found.block) (in_cache left))) };
      refused = λ some none. h.refused none;
    }

-- ---- an arena is chosen

pub chosen_by_book : {P H D K : Type 0} {s : Setting P H D K} {t : Tunables} {who : Who} (bytes : ℕ) (fresh : Bool) {act : Act} {cache left : CacheValue} {p q : P} {space : Space K} {z : Standing P K} (choice : Choice) (tried : Option Tried) → s.ways.whole z.places →
    IsChosen s.ways who.thread fresh t p choice q → FindsChosen s t who (trees.search_by_choice who.thread fresh bytes act cache choice) act cache (standing q space) tried left z →
    FindsChosen s t who (trees.choose_and_search t who.thread fresh bytes act cache) act cache (standing p space) tried left z
chosen_by_book {s = s} {t = t} {who = who} bytes fresh {act = act} {cache = cache} {left = left} {p = p} {q = q} {space = space} {z = z} choice tried whole chosen f =
    let next : BookValue → Call Chosen = λ book. trees.search_by_choice who.thread fresh bytes act cache (choice_of book who.thread fresh t) in
    let rest : Goes s t who (next chosen.book) (standing q space) f.does.told (Done (chosen_with left tried)) z =
    subst (λ (c : Choice). Goes s t who (trees.search_by_choice who.thread fresh bytes act cache c) (standing q space) f.does.told (Done (chosen_with left tried)) z) chosen.choice_is f.does.goes in
    record {
      does = record { told = Booked (Chooses who.thread fresh) chosen.book ∷ f.does.told; goes = going.booked {next = next} {p = standing q space} (record { booked = chosen.booked; space = refl }) rest };
      none = f.none;
      gets = let g = f.gets in record { held = g.held; fits = g.fits; aligned = g.aligned; later = g.later; opens = g.opens; carries = carries_aside chosen.aside whole g.carries };
      refused = f.refused;
    }

-- ---- a second try

-- no arena could be had, and a mapping is asked for
pub finds_without : {P H D K : Type 0} {s : Setting P H D K} {t : Tunables} {who : Who} {c : Call Chosen} {act : Act} {cache left : CacheValue} {o p z : Standing P K} (place : ℕ) (block : Option Block) (f : Chosen → Call Searched) → SameLaw s.ways →
    FindsChosen s t who c act cache o None left p → Finds s t who (f None) act cache p place block cache z → Finds s t who (then_call c f) act cache o place block left z
finds_without {s = s} {t = t} {who = who} {c = c} {act = act} {cache = cache} {left = left} {o = o} {p = p} {z = z} place block f same chosen finds =
    let e : left ≡ cache = chosen.none refl in
    let first : Carries s.ways true (in_cache cache) o (in_cache cache) p =
    subst (λ (l : CacheValue). Carries s.ways true (in_cache cache) o (in_cache l) p) e (none_carries cache left None same refl chosen.gets.carries) in
    subst (λ (l : CacheValue). Finds s t who (then_call c f) act cache o place block l z) (sym e)
    (finds_of place (does_then f chosen.does finds.does)
    (λ none. rose_from (space_refusals s.means.kernel o.space) (space_refusals s.means.kernel p.space) (space_refusals s.means.kernel z.space) chosen.gets.later (finds.refused none))
    (gets_after chosen.gets.later refl first (gets_of finds)))

-- what was found in the arena that was chosen, at the first try or the second
pub finds_at_once : {P H D K : Type 0} {s : Setting P H D K} {t : Tunables} {who : Who} {c : Call Chosen} (bytes : ℕ) {act : Act} {cache left : CacheValue} {o z : Standing P K} (r : Tried) → is_some r.search.block ≡ true →
    FindsChosen s t who c act cache o (Some r) left z → Finds s t who (then_call c (tried_again t who.thread bytes act cache)) act cache o r.search.hold r.search.block left z
finds_at_once {s = s} {t = t} {who = who} bytes {act = act} {cache = cache} {left = left} {z = z} r some f =
    let x : Searched = search_end r.search.hold r.search.block left in
    finds_of r.search.hold
    (does_then (tried_again t who.thread bytes act cache) f.does
    (subst (λ (b : Bool). Does s t who (cond b (Done x) (trees.search_again t who.thread bytes r.arena act left)) z x z) (sym some) (does_here x z))) (f.refused refl) f.gets

tried_main : {P H D K : Type 0} {s : Setting P H D K} {t : Tunables} {who : Who} {bytes : ℕ} {act : Act} {cache : CacheValue} {o z : Standing P K} {x : Searched} (a : ℕ) → nat_eq a 0 ≡ true →
    Does s t who (then_call (trees.choose_and_search t who.thread true bytes act cache) (or_in_mapping act cache)) o x z → Does s t who (trees.search_again t who.thread bytes a act cache) o x z
tried_main {s = s} {t = t} {who = who} {bytes = bytes} {act = act} {cache = cache} {o = o} {z = z} {x = x} a main d =
    subst (λ (b : Bool). Does s t who (cond b (then_call (trees.choose_and_search t who.thread true bytes act cache) (or_in_mapping act cache)) (trees.search_in 0 act cache)) o x z) (sym main) d

pub finds_at_last : {P H D K : Type 0} {s : Setting P H D K} {t : Tunables} {who : Who} {bytes : ℕ} {act : Act} {cache left : CacheValue} {o z : Standing P K} (a : ℕ) (r : Tried) → nat_eq a 0 ≡ true →
    FindsChosen s t who (trees.choose_and_search t who.thread true bytes act cache) act cache o (Some r) left z →
    Finds s t who (trees.search_again t who.thread bytes a act cache) act cache o r.search.hold r.search.block left z
finds_at_last {s = s} {t = t} {who = who} {bytes = bytes} {act = act} {cache = cache} {left = left} {o = o} {z = z} a r main f =
    let x : Searched = search_end r.search.hold r.search.block left in
    let in_main : Does s t who (then_call (trees.choose_and_search t who.thread true bytes act cache) (or_in_mapping act cache)) o x z = does_then (or_in_mapping act cache) f.does (does_here x z) in
    finds_of r.search.hold (tried_main a main in_main) (f.refused refl) f.gets

-- what main was refused, and what another arena was
pub finds_main : {P H D K : Type 0} {s : Setting P H D K} {t : Tunables} {who : Who} {bytes : ℕ} {act : Act} {cache left : CacheValue} {o z : Standing P K} (a place : ℕ) (block : Option Block) → nat_eq a 0 ≡ true →
    Finds s t who (then_call (trees.choose_and_search t who.thread true bytes act cache) (or_in_mapping act cache)) act cache o place block left z → Finds s t who (trees.search_again t who.thread bytes a act cache) act cache o place block left z
finds_main a place block main f = finds_of place (tried_main a main f.does) f.refused (gets_of f)

-- a second try
pub finds_again : {P H D K : Type 0} {s : Setting P H D K} {t : Tunables} {who : Who} {c : Call Chosen} (bytes : ℕ) {act : Act} {cache mid left : CacheValue} {o p z : Standing P K} (r : Tried) (place : ℕ) (block : Option Block) → SameLaw s.ways →
    r.search.block ≡ None → FindsChosen s t who c act cache o (Some r) mid p → Finds s t who (trees.search_again t who.thread bytes r.arena act mid) act mid p place block left z →
    Finds s t who (then_call c (tried_again t who.thread bytes act cache)) act cache o place block left z
finds_again {s = s} {t = t} {who = who} bytes {act = act} {cache = cache} {mid = mid} {left = left} {o = o} {p = p} {z = z} r place block same none f again =
    let x : Searched = search_end r.search.hold r.search.block mid in
    finds_of place
    (does_then (tried_again t who.thread bytes act cache) f.does
    (subst (λ (b : Bool). Does s t who (cond b (Done x) (trees.search_again t who.thread bytes r.arena act mid)) p (search_end place block left) z) (sym (ap (λ (o : Option Block). is_some o) none)) again.does))
    (λ e. rose_from (space_refusals s.means.kernel o.space) (space_refusals s.means.kernel p.space) (space_refusals s.means.kernel z.space) f.gets.later (again.refused e))
    (gets_after f.gets.later f.gets.opens (none_carries cache mid r.search.block same none f.gets.carries) (gets_of again))
