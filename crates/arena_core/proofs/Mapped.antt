-- What a hold leaves of its outside, and what it does to the mapped chunks that the port shows (public for the crates
-- above).
use Rattle.std.proofs.Common.{◌≡◌, ℕ, ◌+◌, ◌%◌, ◌≤◌, Bool, true, false, List, Option, Some, None, IsTrue, inl, inr, refl, sym, ap, ◌∙◌, subst, arith}
use Rattle.std.specs.Prelude.{◌⊎◌}
use Rattle.chunk_tags.specs.Pages.{mapping_length}
use Rattle.chunk_tags.specs.declared.block.Block.{Block}
use Rattle.chunk_tags.specs.declared.tiles.Chunk.{Chunk}
use Rattle.chunk_tags.specs.declared.tunables.Tunables.{Tunables}
use Rattle.address_space.specs.Ports.{Port}
use Rattle.address_space.specs.Spaces.{space_tells, AsksWithin, MapsWithin, map_passes, map_limit, map_start, map_place as next_place}
use Rattle.address_space.specs.declared.asks.Ask.{Ask}
use Rattle.address_space.specs.declared.asks.Answer.{Answer}
use Rattle.address_space.specs.declared.asks.Answer.TheVariants.{Granted, Refused}
use Rattle.address_space.specs.declared.space.Space.{Space}
use Rattle.address_space.specs.declared.space.Windows.{Windows}
use Rattle.thread_cache.specs.Caches.{CacheValue, with_list, structure_of}
use Rattle.fast_bins.specs.FastPorts as fasts
use Rattle.arena_rules.specs.declared.said.Said.{Said}
use Rattle.arena_rules.specs.declared.said.Said.TheVariants as told
use Rattle.arena_rules.specs.PlainArena.{Plain}
use Rattle.arena_rules.specs.Growth.{Found, InArena, InMapping, Nowhere, Took, opened}
use Rattle.arena_rules.specs.Rules.{Rules, Stop, Misfit, Does, Needs, Need, Flagged, Pops, Owns, Rooms, Asks, Maps, Reads, Deed, Clears, Gathers, Pushes, Stashes, Draws, Gives, Counts, behind, mapping_place_in, place_told}
use Rattle.arena_rules.specs.Mapped.{NeverMaps, MapsOnce, EndsMapped}
use Rattle.arena_rules.specs.KeptMappings.{StopsAs, IsInMapping, GoesOnMapped, KeepsMapping}
use Rattle.arena_rules.specs.Align.{size_with_lead, align_of}
use Rattle.arena_rules.specs.Search.{searched}
use Rattle.arena_rules.specs.Walks as walks
use Rattle.arena_rules.specs.Walks.{Walks}
use Rattle.arena_rules.proofs.Mapped.{maps_once_behind, searched_maps_once, given_never_maps, opened_never_maps}
use Rattle.arena_rules.proofs.KeptMappings.{resize_maps_within, align_maps_once}
use Rattle.consolidate_trim.specs.Outside as outside
use Rattle.consolidate_trim.specs.Outside.{Means, Outside, AnswerGoes, ways}
use Rattle.arena_core.specs.declared.journal.Act.{Act}
use Rattle.arena_core.specs.declared.journal.Act.TheVariants.{Open, Take, Give, Resize, Align}
use Rattle.arena_core.specs.Replay.{rules_of, found_nothing, chunk_at}
use Rattle.arena_core.specs.Shown.{MappedShown, ShowsMapped, EndsCounted, StopsCounted, IsCounted, counted_in}
use Rattle.arena_rules.specs.Release.{given}

-- ---- what an ask leaves of an address space

-- what isn't the kernel's, nor the count of the asks that passed
abbrev rest_of : {K : Type 0} → Space K → ℕ × Windows × ℕ
rest_of s = (s.thread, s.windows, s.mapped)

asks_rest : {K : Type 0} (port : Port K) (before now : Space K) (passes : Bool) (ask : Ask) (answer : Answer) → AsksWithin port before passes ask answer now → rest_of now ≡ rest_of before
asks_rest port before now true ask answer h = ap rest_of (h.passed refl).1
asks_rest port before now false ask answer h = ap rest_of (h.put refl).1

refused_rest : {K : Type 0} (port : Port K) (before now : Space K) (len : ℕ) → MapsWithin port before len None now → rest_of now ≡ rest_of before
refused_rest port before now len h =
    let cases : (b : Bool) → map_passes before len ≡ b → rest_of now ≡ rest_of before = elim [
      | true ↦ λ is. ap rest_of (h.passed is).1
      | false ↦ λ is. ap rest_of (h.put is).1
    ] in
    cases (map_passes before len) refl

granted_rest : {K : Type 0} (port : Port K) (before now : Space K) (len at : ℕ) → MapsWithin port before len (Some at) now → rest_of now ≡ (before.thread, before.windows, before.mapped + len)
granted_rest port before now len at h =
    let cases : (b : Bool) → map_passes before len ≡ b → rest_of now ≡ (before.thread, before.windows, before.mapped + len) = elim [
      | true ↦ λ is. let none : Some at ≡ None = (h.passed is).0 in absurd (cc none)
      | false ↦ λ is. ap rest_of (h.put is).1
    ] in
    cases (map_passes before len) refl

-- ---- what a hold leaves of its outside

-- The thread and its windows stay, its mappings only grow, a kernel that tells goes on telling, and an open cache stays
-- open, with its structure.
pub record IsFramed {P K : Type 0} (m : Means P K) (o z : Outside P K) : Type 0 where
  pub thread : z.space.thread ≡ o.space.thread
  pub windows : z.space.windows ≡ o.space.windows
  pub mapped : o.space.mapped ≤ z.space.mapped
  pub tells : IsTrue (space_tells m.kernel o.space) → IsTrue (space_tells m.kernel z.space)
  pub structure : structure_of z.cache ≡ structure_of o.cache

framed_beside : {P K : Type 0} (m : Means P K) (o z : Outside P K) → z.space ≡ o.space → structure_of z.cache ≡ structure_of o.cache → IsFramed m o z
framed_beside {K = K} m o z space structure = record {
  thread = ap (λ (s : Space K). s.thread) space;
  windows = ap (λ (s : Space K). s.windows) space;
  mapped = omega (arith, ap (λ (s : Space K). s.mapped) space);
  tells = subst (λ (s : Space K). IsTrue (space_tells m.kernel s)) (sym space);
  structure = structure;
}

framed_asked : {P K : Type 0} (m : Means P K) (o z : Outside P K) (mapped : ℕ) → rest_of z.space ≡ (o.space.thread, o.space.windows, mapped) → o.space.mapped ≤ mapped → (IsTrue (space_tells m.kernel o.space) → IsTrue (space_tells m.kernel z.space)) → z ≡ record o { space = z.space } → IsFramed m o z
framed_asked {P = P} {K = K} m o z mapped rest more tells others = record {
  thread = ap (λ (r : ℕ × Windows × ℕ). r.0) rest;
  windows = ap (λ (r : ℕ × Windows × ℕ). r.1) rest;
  mapped = omega (arith, more, ap (λ (r : ℕ × Windows × ℕ). r.2) rest);
  tells = tells;
  structure = ap (λ (x : Outside P K). structure_of x.cache) others;
}

framed_port : {P K : Type 0} (m : Means P K) (o z : Outside P K) → z ≡ record o { port = z.port } → IsFramed m o z
framed_port {P = P} {K = K} m o z others = framed_beside m o z (ap (λ (x : Outside P K). x.space) others) (ap (λ (x : Outside P K). structure_of x.cache) others)

framed_then : {P K : Type 0} (m : Means P K) (o p z : Outside P K) → IsFramed m o p → IsFramed m p z → IsFramed m o z
framed_then m o p z a b = record {
  thread = b.thread ∙ a.thread;
  windows = b.windows ∙ a.windows;
  mapped = omega (arith, a.mapped, b.mapped);
  tells = λ h. b.tells (a.tells h);
  structure = b.structure ∙ a.structure;
}

list_structure : (c : CacheValue) (i : ℕ) (blocks : List Block) → structure_of (with_list c i blocks) ≡ structure_of c
list_structure None i blocks = refl
list_structure (Some c) i blocks = refl

goes_framed : {P K : Type 0} (m : Means P K) (o p : Outside P K) (n : Need) (s : Said) → AnswerGoes m o n s p → IsFramed m o p
goes_framed m o p Flagged (told.Flag b) h = framed_port m o p h.others
goes_framed m o p (Pops bin) (told.Popped at) h = framed_port m o p h.others
goes_framed m o p (Owns bin) (told.Own at) h = framed_port m o p h.others
goes_framed {P = P} {K = K} m o p (Rooms size) (told.Room b) h = framed_beside m o p (ap (λ (x : Outside P K). x.space) h.others) (ap (λ (x : Outside P K). structure_of x.cache) h.others)
goes_framed m o p (Asks ask) (told.Asked asked answer) h =
    framed_asked m o p o.space.mapped (asks_rest m.kernel o.space p.space _ asked answer h.asks) (omega arith) h.asks.tells h.others
goes_framed m o p (Maps len) (told.Asked asked Granted) h =
    framed_asked m o p (o.space.mapped + len) (granted_rest m.kernel o.space p.space len _ h.maps) (omega arith) h.maps.tells h.others
goes_framed m o p (Maps len) (told.Asked asked Refused) h =
    framed_asked m o p o.space.mapped (refused_rest m.kernel o.space p.space len h.maps) (omega arith) h.maps.tells h.others
goes_framed m o p (Reads which) (told.Dial n) h = framed_port m o p h.others
goes_framed m o p n s h = absurd h

does_framed : {P K : Type 0} (m : Means P K) (number : ℕ) (o p : Outside P K) (d : Deed) → outside.DeedGoes m number o d p → IsFramed m o p
does_framed m number o p Clears h = framed_port m o p h.others
does_framed m number o p (Gathers bin) h = framed_port m o p h.others
does_framed m number o p (Pushes bin at) h = framed_port m o p h.others
does_framed {P = P} {K = K} m number o p (Stashes c) h =
    framed_beside m o p (ap (λ (x : Outside P K). x.space) h) (ap (λ (x : Outside P K). structure_of x.cache) h ∙ list_structure o.cache _ _)
does_framed {P = P} {K = K} m number o p (Draws size) h =
    framed_beside m o p (ap (λ (x : Outside P K). x.space) h) (ap (λ (x : Outside P K). structure_of x.cache) h ∙ list_structure o.cache _ _)
does_framed m number o p (Gives back) h = framed_asked m o p o.space.mapped (ap rest_of h.gives.others) (omega arith) h.gives.kernel.tells h.others
does_framed m number o p (Counts len) h = framed_port m o p h.others

pub walked_frame : {P K A : Type 0} {m : Means P K} {number : ℕ} {t : Tunables} {r q : Rules A} {o z : Outside P K} {ss : List Said} →
    Walks t (ways m number) r o ss q z → IsFramed m o z
walked_frame {m = m} {z = z} walks.here = framed_beside m z z refl refl
walked_frame {m = m} {z = z} (walks.idled {o = o} {p = p} i a) = framed_then m o p z (framed_port m o p i.others) (walked_frame {m = m} a)
walked_frame {m = m} {number = number} {z = z} (walks.done {d = d} {o = o} {p = p} h a) = framed_then m o p z (does_framed m number o p d h) (walked_frame {m = m} a)
walked_frame {m = m} {z = z} (walks.told {n = n} {s = s} {o = o} {p = p} f h a) = framed_then m o p z (goes_framed m o p n s h) (walked_frame {m = m} a)

-- ---- what a step does

-- nothing was counted, and nothing mapped
record Same {P K : Type 0} (shown : P → MappedShown) (o p : Outside P K) : Type 0 where
  port : shown p.port ≡ shown o.port
  mapped : p.space.mapped ≡ o.space.mapped
  place : next_place p.space ≡ next_place o.space

same_then : {P K : Type 0} {shown : P → MappedShown} {o p z : Outside P K} → Same shown o p → Same shown p z → Same shown o z
same_then s k = record { port = k.port ∙ s.port; mapped = k.mapped ∙ s.mapped; place = k.place ∙ s.place }

same_port : {P K : Type 0} (shown : P → MappedShown) (o p : Outside P K) → shown p.port ≡ shown o.port → p ≡ record o { port = p.port } → Same shown o p
same_port {P = P} {K = K} shown o p port others = record { port = port; mapped = ap (λ (x : Outside P K). x.space.mapped) others; place = ap (λ (x : Outside P K). next_place x.space) others }

same_asked : {P K : Type 0} (shown : P → MappedShown) (o p : Outside P K) → rest_of p.space ≡ rest_of o.space → p ≡ record o { space = p.space } → Same shown o p
same_asked {P = P} {K = K} shown o p rest others =
    record {
      port = ap (λ (x : Outside P K). shown x.port) others;
      mapped = ap (λ (r : ℕ × Windows × ℕ). r.2) rest;
      place = ap (λ (r : ℕ × Windows × ℕ). map_start r.0 + r.2) rest;
    }

same_space : {P K : Type 0} (shown : P → MappedShown) (o p : Outside P K) (cache : CacheValue) → p ≡ record o { cache = cache } → Same shown o p
same_space {P = P} {K = K} shown o p cache is =
    record {
      port = ap (λ (x : Outside P K). shown x.port) is;
      mapped = ap (λ (x : Outside P K). x.space.mapped) is;
      place = ap (λ (x : Outside P K). next_place x.space) is;
    }

-- a deed that counts no mapping, and a need for another thing than one
abbrev IsUncounted : Deed → Type 0
IsUncounted (Counts len) = ⊥
IsUncounted d = Unit {0}

abbrev IsUnmapped : Need → Type 0
IsUnmapped (Maps len) = ⊥
IsUnmapped n = Unit {0}

does_same : {P K : Type 0} (m : Means P K) (number : ℕ) (shown : P → MappedShown) → ShowsMapped m.fast m.dials shown → (o p : Outside P K) (d : Deed) → IsUncounted d → outside.DeedGoes m number o d p → Same shown o p
does_same m number shown shows o p Clears u h = same_port shown o p (shows.steps o.port p.port fasts.Clears h.did.step) h.others
does_same m number shown shows o p (Gathers bin) u h = same_port shown o p (shows.steps o.port p.port (fasts.Gathers bin) h.did.step) h.others
does_same m number shown shows o p (Pushes bin at) u h = same_port shown o p (shows.steps o.port p.port (fasts.Pushes bin at) h.did.step) h.others
does_same m number shown shows o p (Stashes c) u h = same_space shown o p _ h
does_same m number shown shows o p (Draws size) u h = same_space shown o p _ h
does_same m number shown shows o p (Gives back) u h = same_asked shown o p (ap rest_of h.gives.others) h.others
does_same m number shown shows o p (Counts len) u h = absurd u

goes_same : {P K : Type 0} (m : Means P K) (shown : P → MappedShown) → ShowsMapped m.fast m.dials shown → (o p : Outside P K) (n : Need) (s : Said) → IsUnmapped n → AnswerGoes m o n s p → Same shown o p
goes_same m shown shows o p Flagged (told.Flag b) u h = same_port shown o p (shows.steps o.port p.port (fasts.Flags b) h.did.step) h.others
goes_same m shown shows o p (Pops bin) (told.Popped at) u h = same_port shown o p (shows.steps o.port p.port (fasts.Pops bin at) h.did.step) h.others
goes_same m shown shows o p (Owns bin) (told.Own at) u h = same_port shown o p (shows.steps o.port p.port (fasts.Owns bin at) h.did.step) h.others
goes_same m shown shows o p (Rooms size) (told.Room b) u h = same_space shown o p o.cache h.others
goes_same m shown shows o p (Asks ask) (told.Asked asked answer) u h = same_asked shown o p (asks_rest m.kernel o.space p.space _ asked answer h.asks) h.others
goes_same m shown shows o p (Maps len) s u h = absurd u
goes_same m shown shows o p (Reads which) (told.Dial n) u h = same_port shown o p (shows.reads o.port p.port which n h.step) h.others
goes_same m shown shows o p n s u h = absurd h

-- ---- rules that never map

never_does : (d : Deed) (r : Rules Took) → NeverMaps (Does d r) → IsUncounted d × NeverMaps r
never_does (Counts len) r h = absurd h
never_does d r h = (tt, h)

never_needs : (a : Plain) (n : Need) (f : Said → Rules Took) → NeverMaps (Needs a n f) → IsUnmapped n × ((s : Said) → NeverMaps (f s))
never_needs a (Maps len) f h = absurd h
never_needs a n f h = (tt, h)

-- what is left of them never maps, and ends as they do
record IsRest {P K : Type 0} (shown : P → MappedShown) (E : Took → Type 0) (o z : Outside P K) (q : Rules Took) : Type 0 where
  never : NeverMaps q
  ends : StopsAs E q
  same : Same shown o z

never_walk : {P K : Type 0} (m : Means P K) (number : ℕ) (shown : P → MappedShown) → ShowsMapped m.fast m.dials shown → (E : Took → Type 0) {t : Tunables} {r q : Rules Took} {o z : Outside P K} {ss : List Said} →
    NeverMaps r → StopsAs E r → Walks t (ways m number) r o ss q z → IsRest shown E o z q
never_walk m number shown shows E never ends walks.here = record { never = never; ends = ends; same = record { port = refl; mapped = refl; place = refl } }
never_walk m number shown shows E never ends (walks.idled {o = o} {p = p} i a) =
    let k = never_walk m number shown shows E never ends a in
    record { never = k.never; ends = k.ends; same = same_then (same_port shown o p (shows.idles o.port p.port i.idles.idle) i.others) k.same }
never_walk m number shown shows E never ends (walks.done {d = d} {r = r} {o = o} {p = p} h a) =
    let n = never_does d r never in
    let k = never_walk m number shown shows E n.1 ends a in
    record { never = k.never; ends = k.ends; same = same_then (does_same m number shown shows o p d n.0 h) k.same }
never_walk m number shown shows E never ends (walks.told {a = a} {n = n} {f = f} {s = s} {o = o} {p = p} fit h w) =
    let u = never_needs a n f never in
    let k = never_walk m number shown shows E (u.1 s) (ends s) w in
    record { never = k.never; ends = k.ends; same = same_then (goes_same m shown shows o p n s u.0 h) k.same }

-- ---- how far a walk has got

-- a mapping was granted, which the rules then count, and go on behind it
record IsGrant {P K : Type 0} (shown : P → MappedShown) (nb : ℕ) (o p : Outside P K) (s : Said) (r : Rules Took) : Type 0 where
  len : ℕ
  length : len ≡ mapping_length nb
  goes : GoesOnMapped len s r
  port : shown p.port ≡ shown o.port
  mapped : p.space.mapped ≡ o.space.mapped + len
  place : place_told s ≡ next_place o.space
  behind : place_told s + len ≡ next_place p.space
  page : place_told s % 4096 ≡ 0
  limit : place_told s + len ≤ map_limit

within_does : (nb : ℕ) (d : Deed) (r : Rules Took) → KeepsMapping nb (Does d r) → IsUncounted d × KeepsMapping nb r
within_does nb (Counts len) r h = absurd h
within_does nb d r h = (tt, h)

within_needs : {P K : Type 0} (m : Means P K) (shown : P → MappedShown) → ShowsMapped m.fast m.dials shown → (nb : ℕ) (o p : Outside P K) (a : Plain) (n : Need) (f : Said → Rules Took) (s : Said) → KeepsMapping nb (Needs a n f) → AnswerGoes m o n s p →
    (KeepsMapping nb (f s) × Same shown o p) ⊎ (IsGrant shown nb o p s (f s))
within_needs {P = P} {K = K} m shown shows nb o p a (Maps len) f (told.Asked asked Granted) within h = inr (record {
  len = len;
  length = within.0;
  goes = (within.1 (told.Asked asked Granted)).0 refl;
  port = ap (λ (x : Outside P K). shown x.port) h.others;
  mapped = ap (λ (r : ℕ × Windows × ℕ). r.2) (granted_rest m.kernel o.space p.space len _ h.maps);
  place = ap mapping_place_in h.place;
  behind = omega (arith, ap mapping_place_in h.place, h.maps.fresh.behind);
  page = subst (λ n. n % 4096 ≡ 0) (sym (ap mapping_place_in h.place)) h.maps.fresh.page;
  limit = omega (arith, ap mapping_place_in h.place, h.maps.fresh.limit);
})
within_needs m shown shows nb o p a (Maps len) f (told.Asked asked Refused) within h =
    inl ((within.1 (told.Asked asked Refused)).1 refl, same_asked shown o p (refused_rest m.kernel o.space p.space len h.maps) h.others)
within_needs m shown shows nb o p a (Maps len) f s within h = absurd h
within_needs m shown shows nb o p a n f s within h = inl (within s, goes_same m shown shows o p n s tt h)

-- a mapping was counted, with whose chunk the rules end
record IsMapped {P K : Type 0} (shown : P → MappedShown) (nb : ℕ) (o z : Outside P K) (q : Rules Took) : Type 0 where
  chunk : Chunk
  never : NeverMaps q
  ends : StopsAs (IsInMapping chunk) q
  mapped : z.space.mapped ≡ o.space.mapped + chunk.size
  counted : IsCounted shown nb o z chunk

-- nothing was counted yet; or a granted mapping is about to be; or one was
data Progress {P K : Type 0} (shown : P → MappedShown) (nb : ℕ) (o z : Outside P K) (q : Rules Took) : Type 0 where
  uncounted : KeepsMapping nb q → Same shown o z → Progress shown nb o z q
  granted : (d : Deed) (r : Rules Took) → q ≡ Does d r → Progress shown nb o z q
  counted : IsMapped shown nb o z q → Progress shown nb o z q

progress_from : {P K : Type 0} (shown : P → MappedShown) (nb : ℕ) (o p z : Outside P K) (q : Rules Took) → Same shown o p → Progress shown nb p z q → Progress shown nb o z q
progress_from shown nb o p z q s (uncounted within k) = uncounted within (same_then s k)
progress_from shown nb o p z q s (granted d r is) = granted d r is
progress_from shown nb o p z q s (counted k) = counted (record {
  chunk = k.chunk;
  never = k.never;
  ends = k.ends;
  mapped = omega (arith, k.mapped, s.mapped);
  counted = let i = k.counted in record {
    shows = i.shows ∙ ap (counted_in k.chunk.size) s.port;
    length = i.length;
    place = i.place ∙ s.place;
    behind = i.behind;
    page = i.page;
    limit = i.limit;
  };
})

-- behind a grant the count is still to come, or was made
progress_granted : {P K : Type 0} (m : Means P K) (number : ℕ) (shown : P → MappedShown) → ShowsMapped m.fast m.dials shown → (nb : ℕ) {t : Tunables} {r q : Rules Took} {o p z : Outside P K} {s : Said} {ss : List Said} (g : IsGrant shown nb o p s r) →
    Walks t (ways m number) (Does (Counts g.len) g.goes.rest) p ss q z → Progress shown nb o z q
progress_granted m number shown shows nb g walks.here = granted (Counts g.len) g.goes.rest refl
progress_granted m number shown shows nb {r = r} {o = o} {p = p} {s = s} g (walks.idled {p = p'} i a) =
    let k = same_port shown p p' (shows.idles p.port p'.port i.idles.idle) i.others in
    let later : IsGrant shown nb o p' s r = record {
      len = g.len;
      length = g.length;
      goes = g.goes;
      port = k.port ∙ g.port;
      mapped = k.mapped ∙ g.mapped;
      place = g.place;
      behind = g.behind ∙ sym k.place;
      page = g.page;
      limit = g.limit;
    } in
    progress_granted m number shown shows nb later a
progress_granted {P = P} {K = K} m number shown shows nb {p = p} {s = s} g (walks.done {p = p'} h a) =
    let c : Chunk = record { at = place_told s; size = g.len } in
    let k = never_walk m number shown shows (IsInMapping c) g.goes.never g.goes.ends a in
    counted (record {
      chunk = c;
      never = k.never;
      ends = k.ends;
      mapped = k.same.mapped ∙ (ap (λ (x : Outside P K). x.space.mapped) h.others ∙ g.mapped);
      counted = record {
        shows = k.same.port ∙ (shows.maps p.port p'.port g.len h.step ∙ ap (counted_in g.len) g.port);
        length = g.length;
        place = g.place;
        behind = g.behind ∙ sym (k.same.place ∙ ap (λ (x : Outside P K). next_place x.space) h.others);
        page = g.page;
        limit = g.limit;
      };
    })

walked_progress : {P K : Type 0} (m : Means P K) (number : ℕ) (shown : P → MappedShown) → ShowsMapped m.fast m.dials shown → (nb : ℕ) {t : Tunables} {r q : Rules Took} {o z : Outside P K} {ss : List Said} →
    KeepsMapping nb r → Walks t (ways m number) r o ss q z → Progress shown nb o z q
walked_progress m number shown shows nb within walks.here = uncounted within (record { port = refl; mapped = refl; place = refl })
walked_progress m number shown shows nb {q = q} {z = z} within (walks.idled {o = o} {p = p} i a) =
    progress_from shown nb o p z q (same_port shown o p (shows.idles o.port p.port i.idles.idle) i.others) (walked_progress m number shown shows nb within a)
walked_progress m number shown shows nb {q = q} {z = z} within (walks.done {d = d} {r = r} {o = o} {p = p} h a) =
    let k = within_does nb d r within in
    progress_from shown nb o p z q (does_same m number shown shows o p d k.0 h) (walked_progress m number shown shows nb k.1 a)
walked_progress m number shown shows nb {t = t} {q = q} {z = z} within (walks.told {a = a} {n = n} {f = f} {s = s} {o = o} {p = p} {ss = ss} fit h w) =
    elim (within_needs m shown shows nb o p a n f s within h) [
      | inl k ↦ progress_from shown nb o p z q k.1 (walked_progress m number shown shows nb k.0 w)
      | inr g ↦ progress_granted m number shown shows nb g (subst (λ r. Walks t (ways m number) r p ss q z) g.goes.is w)
    ]

-- ---- where a hold ended, and where it was left

abbrev chunk_found : Found → Chunk
chunk_found (InArena c) = c
chunk_found (InMapping c) = c
chunk_found Nowhere = record { at = 0; size = 0 }

pub walked_to_end : {P K : Type 0} (m : Means P K) (number : ℕ) (shown : P → MappedShown) → ShowsMapped m.fast m.dials shown → (nb : ℕ) {t : Tunables} {r : Rules Took} {o z : Outside P K} {ss : List Said} {x : Took} →
    KeepsMapping nb r → Walks t (ways m number) r o ss (Stop x) z → EndsCounted shown nb o z x
walked_to_end {P = P} {K = K} m number shown shows nb {o = o} {z = z} {x = x} within a =
    let ends : Progress shown nb o z (Stop x) → EndsCounted shown nb o z x = elim [
      | uncounted still same ↦ record {
        none = λ _. same.port;
        one = λ c is. absurd (still c is);
        bytes = omega (arith, ap (λ (s : MappedShown). s.bytes) same.port, same.mapped);
      }
      | granted d r is ↦ absurd cc
      | counted k ↦ record {
        none = λ none. absurd (none k.chunk k.ends);
        one = λ c is.
            let same : k.chunk ≡ c = ap chunk_found (sym k.ends ∙ is) in
            subst (λ (e : Chunk). IsCounted shown nb o z e) same k.counted;
        bytes = omega (arith, ap (λ (s : MappedShown). s.bytes) k.counted.shows, k.mapped);
      }
    ] in
    ends (walked_progress m number shown shows nb within a)

pub walked_short : {P K : Type 0} (m : Means P K) (number : ℕ) (shown : P → MappedShown) → ShowsMapped m.fast m.dials shown → (nb : ℕ) {t : Tunables} {r : Rules Took} {o z : Outside P K} {ss : List Said} {left : Plain} {need : Need} {next : Said → Rules Took} →
    KeepsMapping nb r → Walks t (ways m number) r o ss (Needs left need next) z → StopsCounted shown nb o z
walked_short m number shown shows nb {o = o} {z = z} {left = left} {need = need} {next = next} within a =
    let stops : Progress shown nb o z (Needs left need next) → StopsCounted shown nb o z = elim [
      | uncounted still same ↦ record { counts = inl same.port; bytes = omega (arith, ap (λ (s : MappedShown). s.bytes) same.port, same.mapped) }
      | granted d r is ↦ absurd cc
      | counted k ↦ record {
        counts = inr (k.counted.shows ∙ ap (λ n. counted_in n (shown o.port)) k.counted.length);
        bytes = omega (arith, ap (λ (s : MappedShown). s.bytes) k.counted.shows, k.mapped);
      }
    ] in
    stops (walked_progress m number shown shows nb within a)

-- ---- the rules of an act

-- the bytes of a mapping that an act may ask for; one that opens an arena or gives a chunk asks for none
abbrev pub request_of : Act → ℕ
request_of (Open bytes) = 0
request_of (Take nb) = nb
request_of (Give at size) = 0
request_of (Resize at size nb) = nb
request_of (Align align nb) = size_with_lead align nb

-- what ends behind a granted mapping goes on so
ends_within : (len : ℕ) (s : Said) (r : Rules Took) → EndsMapped len s r → GoesOnMapped len s r
ends_within len s r e = record { rest = _; is = e.is; never = tt; ends = refl }

once_within : (nb : ℕ) (r : Rules Took) → MapsOnce nb r → KeepsMapping nb r
once_within nb (Stop x) once = once
once_within nb Misfit once = tt
once_within nb (Does (Counts len) r) once = absurd once
once_within nb (Does d r) once = once_within nb r once
once_within nb (Needs a (Maps len) f) once = (once.0, λ s. (λ is. ends_within len s (f s) ((once.1 s).0 is), λ is. once_within nb (f s) ((once.1 s).1 is)))
once_within nb (Needs a n f) once = λ s. once_within nb (f s) (once s)

pub rules_map_within : (t : Tunables) (act : Act) (a : Plain) → KeepsMapping (request_of act) (rules_of t act a)
rules_map_within t (Open bytes) a =
    let after : Option Plain → Rules Took = λ o. elim o [ Some b ↦ Stop (found_nothing b) | None ↦ Misfit ] in
    let ends : (o : Option Plain) → MapsOnce 0 (after o) = elim [ None ↦ tt | Some b ↦ λ c is. absurd cc ] in
    once_within 0 (behind (opened t bytes a) after) (maps_once_behind 0 (opened t bytes a) after (opened_never_maps t bytes a) ends)
rules_map_within t (Take nb) a = once_within nb (searched t nb a) (searched_maps_once t nb a)
rules_map_within t (Give at size) a =
    let r : Rules Plain = given t a (chunk_at at size) in
    once_within 0 (behind r (λ b. Stop (found_nothing b))) (maps_once_behind 0 r (λ b. Stop (found_nothing b)) (given_never_maps t a (chunk_at at size)) (λ b c is. absurd cc))
rules_map_within t (Resize at size nb) a = resize_maps_within t a (chunk_at at size) nb
rules_map_within t (Align align nb) a = once_within (size_with_lead align nb) (align_of t align nb a) (align_maps_once t align nb a)
