-- How a call goes to its end over the places of one order of calls: its result, the trays, and the thread's address space.
use Rattle.std.proofs.Common.{◌≡◌, ℕ, Bool, true, false, List, Option, Result, refl, sym, ap, ◌∙◌, subst}
use Rattle.chunk_tags.specs.declared.block.Block.{Block}
use Rattle.chunk_tags.specs.declared.tunables.Tunables.{Tunables}
use Rattle.address_space.specs.Ports.{Port}
use Rattle.thread_cache.specs.Caches.{CacheValue}
use Rattle.arena_core.specs.declared.journal.Act.{Act}
use Rattle.arena_core.specs.declared.journal.Ended.{Ended}
use Rattle.arena_core.specs.declared.journal.Who.{Who}
use Rattle.arena_core.specs.Journal.{Recorded}
use Rattle.arena_choice.specs.Books.{BookValue}
use Rattle.arena_rules.specs.PlainArena.{Plain}
use Rattle.mapped_chunks.specs.declared.plain.PlainDials.{PlainDials}
use Rattle.arena_holds.specs.Calls.{Call, Done, Holds, HoldsFree, Opens, Books, Maps, Pushes, Frees, Unmaps, Remaps, Posts, Takes}
use Rattle.arena_holds.specs.Going as going
use Rattle.arena_holds.specs.Going.{Told, Does, HoldStep}
use Rattle.arena_holds.specs.Places.{Standing}
use Rattle.serial_places.specs.SerialWays.{SerialState, serial_setting}
use Rattle.serial_places.specs.Trays.{tray_at, seen_by_post, found_by_take, trays_posted, trays_taken}
use Rattle.serial_places.specs.declared.tray.Tray.{Tray}
use Rattle.trace_replay.proofs.CallResults.{AllResults}
use Rattle.trace_replay.proofs.Within.{StaysWithin, within_same, within_then, within_mapped, within_remapped, within_given, walked_within, asked_within}

-- ---- what is true of each result and the trays then, where a call begins with these trays

abbrev pub AllEnds : {A : Type 0} → (A → List Tray → Type 0) → Call A → List Tray → Type 0
AllEnds Q (Done x) ts = Q x ts
AllEnds Q (Holds a act cache next) ts = (place : ℕ) (ended : Ended) (left : CacheValue) → AllEnds Q (next place ended left) ts
AllEnds Q (HoldsFree start avoid act cache next) ts = (a place : ℕ) (ended : Ended) (left : CacheValue) → AllEnds Q (next a place ended left) ts
AllEnds Q (Opens a bytes next) ts = (opened : Bool) → AllEnds Q (next opened) ts
AllEnds Q (Books change next) ts = (book : BookValue) → AllEnds Q (next book) ts
AllEnds Q (Maps len next) ts = (start : Option ℕ) → AllEnds Q (next start) ts
AllEnds Q (Pushes b c) ts = AllEnds Q c ts
AllEnds Q (Frees b c) ts = AllEnds Q c ts
AllEnds Q (Unmaps b c) ts = AllEnds Q c ts
AllEnds Q (Remaps b len next) ts = (start : Option ℕ) → AllEnds Q (next start) ts
AllEnds Q (Posts tray b next) ts = AllEnds Q (next (seen_by_post (tray_at ts tray))) (trays_posted tray b ts)
AllEnds Q (Takes tray next) ts = AllEnds Q (next (found_by_take (tray_at ts tray))) (trays_taken tray ts)

-- so is a result of a call that uses no tray, and the trays are the same
pub record Quietly {A : Type 0} (P : A → Type 0) (ts : List Tray) (x : A) (left : List Tray) : Type 0 where
  pub result : P x
  pub trays : left ≡ ts

pub quiet_ends : {A : Type 0} (P : A → Type 0) (c : Call A) (ts : List Tray) → AllResults P c → AllEnds (Quietly P ts) c ts
quiet_ends P (Done x) ts h = record { result = h; trays = refl }
quiet_ends P (Holds a act cache next) ts h = λ place ended left. quiet_ends P (next place ended left) ts (h place ended left)
quiet_ends P (HoldsFree start avoid act cache next) ts h = λ a place ended left. quiet_ends P (next a place ended left) ts (h a place ended left)
quiet_ends P (Opens a bytes next) ts h = λ opened. quiet_ends P (next opened) ts (h opened)
quiet_ends P (Books change next) ts h = λ book. quiet_ends P (next book) ts (h book)
quiet_ends P (Maps len next) ts h = λ start. quiet_ends P (next start) ts (h start)
quiet_ends P (Pushes b c) ts h = quiet_ends P c ts h
quiet_ends P (Frees b c) ts h = quiet_ends P c ts h
quiet_ends P (Unmaps b c) ts h = quiet_ends P c ts h
quiet_ends P (Remaps b len next) ts h = λ start. quiet_ends P (next start) ts (h start)
quiet_ends P (Posts tray b next) ts h = absurd h
quiet_ends P (Takes tray next) ts h = absurd h

-- ---- a call that went to its end

pub record Ends {K A : Type 0} (Q : A → List Tray → Type 0) (x : A) (o z : Standing SerialState K) : Type 0 where
  pub result : Q x z.places.trays
  pub space : StaysWithin o.space z.space

-- behind a step that leaves the trays
step_ends : {K A : Type 0} (Q : A → List Tray → Type 0) (x : A) (o p z : Standing SerialState K) → StaysWithin o.space p.space → Ends Q x p z → Ends Q x o z
step_ends Q x o p z within e = record { result = e.result; space = within_then o.space p.space z.space within e.space }

same_trays : {A : Type 0} (Q : A → List Tray → Type 0) (c : Call A) (old new : SerialState) → new.trays ≡ old.trays → AllEnds Q c old.trays → AllEnds Q c new.trays
same_trays Q c old new same h = subst (AllEnds Q c) (sym same) h

hold_trays : {K : Type 0} {port : Port K} {t : Tunables} {who : Who} {a : ℕ} {act : Act} {cache left : CacheValue} {o p : Standing SerialState K} {place : ℕ} {before : Plain} {entry : Recorded} →
    HoldStep (serial_setting (λ (v : SerialState). v) port) t who a act cache o place before entry left p → p.places.trays ≡ o.places.trays
hold_trays h = ap (λ (v : SerialState). v.trays) h.gave.left ∙ ap (λ (v : SerialState). v.trays) h.lent.left

words_trays : (old lending new : SerialState) (dials : PlainDials) → lending ≡ old → new ≡ record lending { dials = dials } → new.trays ≡ old.trays
words_trays old lending new dials lent gave = ap (λ (v : SerialState). v.trays) gave ∙ ap (λ (v : SerialState). v.trays) lent

pub goes_ends : {K A : Type 0} {port : Port K} {t : Tunables} {who : Who} {c q : Call A} {o z : Standing SerialState K} {told : List Told}
    (Q : A → List Tray → Type 0) (x : A) → q ≡ Done x → AllEnds Q c o.places.trays → going.Goes (serial_setting (λ (v : SerialState). v) port) t who c o told q z → Ends Q x o z
goes_ends {z = z} Q x e h going.here = record { result = subst (λ (c : Call _). AllEnds Q c z.places.trays) e h; space = within_same z.space z.space refl }
goes_ends {z = z} Q x e h (going.idled {c = c} {o = o} {p = p} i a) =
    step_ends Q x o p z (within_same o.space p.space i.space)
    (goes_ends Q x e (same_trays Q c o.places p.places (ap (λ (v : SerialState). v.trays) i.idle.changed.left) h) a)
goes_ends {z = z} Q x e h (going.held {left = left} {next = next} {o = o} {p = p} {place = place} {entry = entry} i a) =
    step_ends Q x o p z (walked_within i.walk)
    (goes_ends Q x e (same_trays Q (next place entry.ended left) o.places p.places (hold_trays i) (h place entry.ended left)) a)
goes_ends {z = z} Q x e h (going.held_free {a = n} {left = left} {next = next} {o = o} {p = p} {place = place} {entry = entry} free i a) =
    step_ends Q x o p z (walked_within i.walk)
    (goes_ends Q x e (same_trays Q (next n place entry.ended left) o.places p.places (hold_trays i) (h n place entry.ended left)) a)
goes_ends {z = z} Q x e h (going.opened {next = next} {o = o} {p = p} i a) =
    step_ends Q x o p z (asked_within i.walk)
    (goes_ends Q x e (same_trays Q (next true) o.places p.places (ap (λ (v : SerialState). v.trays) i.added.left) (h true)) a)
goes_ends {z = z} Q x e h (going.refused {next = next} {o = o} {p = p} i a) =
    step_ends Q x o p z (asked_within i.walk)
    (goes_ends Q x e (same_trays Q (next false) o.places p.places (ap (λ (v : SerialState). v.trays) i.undone.left) (h false)) a)
goes_ends {z = z} Q x e h (going.booked {next = next} {o = o} {p = p} {book = book} i a) =
    step_ends Q x o p z (within_same o.space p.space i.space)
    (goes_ends Q x e (same_trays Q (next book) o.places p.places (ap (λ (v : SerialState). v.trays) i.booked.left) (h book)) a)
goes_ends {port = port} {z = z} Q x e h (going.mapped {len = len} {next = next} {o = o} {p = p} {start = start} i a) =
    step_ends Q x o p z (within_mapped port o.space p.space len _ i.maps.asked)
    (goes_ends Q x e (same_trays Q (next start) o.places p.places (words_trays o.places i.lending p.places i.last_dial i.lent.left i.gave) (h start)) a)
goes_ends {z = z} Q x e h (going.pushed {c = c} {o = o} {p = p} i a) =
    step_ends Q x o p z (within_same o.space p.space i.space)
    (goes_ends Q x e (same_trays Q c o.places p.places (ap (λ (v : SerialState). v.trays) i.pushed.changed.left) h) a)
goes_ends {port = port} {z = z} Q x e h (going.freed {c = c} {o = o} {p = p} i a) =
    step_ends Q x o p z (within_given port o.space p.space _ i.frees.given)
    (goes_ends Q x e (same_trays Q c o.places p.places (words_trays o.places i.lending p.places i.last_dial i.lent.left i.gave) h) a)
goes_ends {port = port} {z = z} Q x e h (going.unmapped {c = c} {o = o} {p = p} i a) =
    step_ends Q x o p z (within_given port o.space p.space _ i.unmaps.given)
    (goes_ends Q x e (same_trays Q c o.places p.places (words_trays o.places i.lending p.places i.last_dial i.lent.left i.gave) h) a)
goes_ends {port = port} {z = z} Q x e h (going.remapped {next = next} {o = o} {p = p} {start = start} i a) =
    step_ends Q x o p z (within_remapped port o.space p.space _ _ i.changes.asked)
    (goes_ends Q x e (same_trays Q (next start) o.places p.places (words_trays o.places i.lending p.places i.last_dial i.lent.left i.gave) (h start)) a)
goes_ends {z = z} Q x e h (going.posted {tray = tray} {b = b} {next = next} {o = o} {p = p} {full = full} i a) =
    let at : AllEnds Q (next full) (trays_posted tray b o.places.trays) = subst (λ (f : Option ℕ). AllEnds Q (next f) (trays_posted tray b o.places.trays)) (sym i.posted.told) h in
    step_ends Q x o p z (within_same o.space p.space i.space)
    (goes_ends Q x e (subst (AllEnds Q (next full)) (sym (ap (λ (v : SerialState). v.trays) i.posted.left)) at) a)
goes_ends {z = z} Q x e h (going.taken {tray = tray} {next = next} {o = o} {p = p} {found = found} i a) =
    let at : AllEnds Q (next found) (trays_taken tray o.places.trays) = subst (λ (f : Result Block ℕ). AllEnds Q (next f) (trays_taken tray o.places.trays)) (sym i.took.told) h in
    step_ends Q x o p z (within_same o.space p.space i.space)
    (goes_ends Q x e (subst (AllEnds Q (next found)) (sym (ap (λ (v : SerialState). v.trays) i.took.left)) at) a)

pub does_ends : {K A : Type 0} (port : Port K) (t : Tunables) (who : Who) (c : Call A) (o z : Standing SerialState K) (Q : A → List Tray → Type 0) (x : A) →
    AllEnds Q c o.places.trays → Does (serial_setting (λ (v : SerialState). v) port) t who c o x z → Ends Q x o z
does_ends port t who c o z Q x h d = goes_ends Q x refl h d.goes

-- the same of a call that uses no tray
pub does_quietly : {K A : Type 0} (port : Port K) (t : Tunables) (who : Who) (c : Call A) (o z : Standing SerialState K) (P : A → Type 0) (x : A) →
    AllResults P c → Does (serial_setting (λ (v : SerialState). v) port) t who c o x z → Ends (Quietly P o.places.trays) x o z
does_quietly port t who c o z P x h d = does_ends port t who c o z (Quietly P o.places.trays) x (quiet_ends P c o.places.trays h) d
