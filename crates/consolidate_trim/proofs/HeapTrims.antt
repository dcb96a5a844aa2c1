-- Laws of trimming another arena, for this crate and those above it.
use Rattle.std.proofs.Common.{◌≡◌, ℕ, ◌-◌, ◌<◌, ◌≤◌, suc, zero, Bool, true, false, cond, List, [], length, Option, Some, None, refl, sym, ap, ◌∙◌, subst, append-nil, arith}
use Rattle.std.specs.Prelude.{nat_eq, nat_lt}
use Rattle.std.proofs.lemmas.Bool.{cond-false, lt-ltb, ne_eqb, true≢false}
use Rattle.chunk_tags.specs.declared.tunables.Tunables.{Tunables}
use Rattle.address_space.specs.Ports.{Port}
use Rattle.address_space.specs.Spaces.{GivesWithin}
use Rattle.address_space.specs.declared.asks.Back.{Back}
use Rattle.address_space.specs.declared.asks.Back.TheVariants as backs
use Rattle.address_space.specs.declared.space.Space.{Space}
use Rattle.arena_rules.specs.declared.heap_end.HeapEnd.{HeapEnd}
use Rattle.arena_rules.specs.declared.said.Said.{Said}
use Rattle.arena_rules.specs.Heaps.{end_before_heap, heap_shortened, last_heap, last_length, without_free_part, without_heap}
use Rattle.arena_rules.specs.Moves.{top_size, Gains}
use Rattle.arena_rules.specs.PlainArena.{Plain, HeapWindows, IsSound, is_main}
use Rattle.arena_rules.specs.Rules.{Rules, Stop, Does, Deed, Gives}
use Rattle.arena_rules.specs.Trim.{dropped_heaps, heap_cut, is_enough_end, spare_bytes, trimmed, trimmed_heaps, trimmed_main}
use Rattle.arena_rules.specs.Walks as walks
use Rattle.arena_rules.specs.Walks.{Walks, Reaches}
use Rattle.arena_rules.proofs.Beside.{beside_sized}
use Rattle.arena_rules.proofs.Walks.{walks_then}
use Rattle.consolidate_trim.specs.Outside.{Means, Outside, DeedGoes as DoesOutside, ways}
use Rattle.consolidate_trim.specs.Holds.{Hold, hold, no_chunk}
use Rattle.consolidate_trim.specs.Trims.{SpaceDoes, space_ways, TrimsHeaps}
use Rattle.consolidate_trim.proofs.Carried.{Passes}

-- ---- nothing, one giving back, and one trim after another

pub trims_here : {K : Type 0} {port : Port K} {r : Rules Plain} {a : Plain} {s : Space K} → IsSound a → TrimsHeaps port r a s r a s
trims_here sound = record { walks = λ t. walks.here; gains = record { sound = sound; used = λ e. omega arith }; number = refl; windows = refl; less = omega arith }

pub trims_then : {K : Type 0} {port : Port K} {r q u : Rules Plain} {a b c : Plain} {s v z : Space K} → TrimsHeaps port r a s q b v → TrimsHeaps port q b v u c z → TrimsHeaps port r a s u c z
trims_then m n = record {
  walks = λ t. walks_then (m.walks t) (n.walks t);
  gains = record { sound = n.gains.sound; used = λ e. omega (arith, m.gains.used e, n.gains.used e) };
  number = n.number ∙ m.number;
  windows = n.windows ∙ m.windows;
  less = omega (arith, m.less, n.less);
}

pub trims_as : {K : Type 0} {port : Port K} {r r' q q' : Rules Plain} {a b : Plain} {s z : Space K} → r ≡ r' → q ≡ q' → TrimsHeaps port r a s q b z → TrimsHeaps port r' a s q' b z
trims_as {port = port} {r = r} {r' = r'} {q = q} {a = a} {b = b} {s = s} {z = z} here there m =
    subst (λ (x : Rules Plain). TrimsHeaps port r' a s x b z) there (subst (λ (x : Rules Plain). TrimsHeaps port x a s q b z) here m)

gives : {K : Type 0} {port : Port K} {r : Rules Plain} {a b : Plain} {s z : Space K} (back : Back) → GivesWithin port s back z → Gains a None b → b.number ≡ a.number → b.windows ≡ a.windows → b.system ≤ a.system → TrimsHeaps port (Does (Gives back) r) a s r b z
gives back within gains number windows less = record { walks = λ t. walks.done within walks.here; gains = gains; number = number; windows = windows; less = less }

-- ---- heaps are dropped

-- what is left to be done, with turns enough for the tiles that are left
pub record IsDropping {K : Type 0} (port : Port K) (t : Tunables) (a : Plain) (s : Space K) (b : Plain) (z : Space K) : Type 0 where
  pub turns : ℕ
  pub enough : length b.tiles ≤ turns
  pub trims : (go : Plain → Rules Plain) → TrimsHeaps port (dropped_heaps (length a.tiles) t a go) a s (dropped_heaps turns t b go) b z

pub dropping_here : {K : Type 0} {port : Port K} {t : Tunables} (a : Plain) (s : Space K) → IsSound a → IsDropping port t a s a s
dropping_here a s sound = record { turns = length a.tiles; enough = omega arith; trims = λ go. trims_here sound }

kept_number : (a : Plain) (e : HeapEnd) → (without_heap a e).number ≡ a.number
kept_number a e =
    let part : (o : Option _) → (without_free_part a o).number ≡ a.number = elim [ None ↦ refl | Some u ↦ refl ] in
    part e.before

kept_windows : (a : Plain) (e : HeapEnd) → (without_heap a e).windows ≡ a.windows
kept_windows a e =
    let part : (o : Option _) → (without_free_part a o).windows ≡ a.windows = elim [ None ↦ refl | Some u ↦ refl ] in
    part e.before

abbrev one_dropped : ℕ → Tunables → Plain → (Plain → Rules Plain) → HeapEnd → Rules Plain
one_dropped n t a go e = Does (Gives (backs.DropHeap a.number (last_heap a) (last_length a))) (dropped_heaps n t (without_heap a e) go)

drops : (n : ℕ) (t : Tunables) (a : Plain) (e : HeapEnd) (go : Plain → Rules Plain) → end_before_heap a ≡ Some e → is_enough_end t e ≡ true → dropped_heaps (suc n) t a go ≡ one_dropped n t a go e
drops n t a e go is enough =
    ap (λ (o : Option HeapEnd). elim o [ None ↦ go a | Some e ↦ cond (is_enough_end t e) (one_dropped n t a go e) (go a) ]) is
    ∙ ap (λ (b : Bool). cond b (one_dropped n t a go e) (go a)) enough

pub dropping_more : {K : Type 0} {port : Port K} {t : Tunables} {a b c : Plain} {s v z : Space K} (e : HeapEnd) → IsDropping port t a s b v → end_before_heap b ≡ Some e → is_enough_end t e ≡ true →
    c ≡ without_heap b e → Gains b None c → length c.tiles < length b.tiles → GivesWithin port v (backs.DropHeap b.number (last_heap b) (last_length b)) z → IsDropping port t a s c z
dropping_more {K = K} {port = port} {t = t} {a = a} {b = b} {c = c} {s = s} {v = v} {z = z} e d is enough same gains fewer back =
    let f : (n : ℕ) → length b.tiles ≤ n → ((go : Plain → Rules Plain) → TrimsHeaps port (dropped_heaps (length a.tiles) t a go) a s (dropped_heaps n t b go) b v) → IsDropping port t a s c z = elim [
      | zero ↦ λ le trims. absurd (omega (arith, le, fewer))
      | suc n ↦ λ le trims. record {
        turns = n;
        enough = omega (arith, le, fewer);
        trims = λ go.
            let one : TrimsHeaps port (one_dropped n t b go e) b v (dropped_heaps n t (without_heap b e) go) c z =
            gives (backs.DropHeap b.number (last_heap b) (last_length b)) back gains (ap (λ (x : Plain). x.number) same ∙ kept_number b e) (ap (λ (x : Plain). x.windows) same ∙ kept_windows b e) (omega (arith, ap (λ (x : Plain). x.system) same)) in
            trims_then (trims go) (trims_as (sym (drops n t b e go is enough)) (ap (λ x. dropped_heaps n t x go) (sym same)) one);
      }
    ] in
    f d.turns d.enough d.trims

pub dropping_sound : {K : Type 0} {port : Port K} {t : Tunables} {a b : Plain} {s z : Space K} → IsDropping port t a s b z → IsSound b
dropping_sound d = (d.trims (λ x. Stop x)).gains.sound

pub dropping_other : {K : Type 0} {port : Port K} {t : Tunables} {a b : Plain} {s z : Space K} → IsDropping port t a s b z → is_main a ≡ false → is_main b ≡ false
dropping_other d other = ap (λ n. nat_eq n 0) (d.trims (λ x. Stop x)).number ∙ other

-- no heap can be dropped any more
pub ended_none : (n : ℕ) (t : Tunables) (a : Plain) (go : Plain → Rules Plain) → end_before_heap a ≡ None → dropped_heaps n t a go ≡ go a
ended_none zero t a go is = refl
ended_none (suc n) t a go is = ap (λ (o : Option HeapEnd). elim o [ None ↦ go a | Some e ↦ cond (is_enough_end t e) (one_dropped n t a go e) (go a) ]) is

pub ended_short : (n : ℕ) (t : Tunables) (a : Plain) (e : HeapEnd) (go : Plain → Rules Plain) → end_before_heap a ≡ Some e → is_enough_end t e ≡ false → dropped_heaps n t a go ≡ go a
ended_short zero t a e go is less = refl
ended_short (suc n) t a e go is less =
    ap (λ (o : Option HeapEnd). elim o [ None ↦ go a | Some e ↦ cond (is_enough_end t e) (one_dropped n t a go e) (go a) ]) is
    ∙ ap (λ (b : Bool). cond b (one_dropped n t a go e) (go a)) less

pub dropped_none : {K : Type 0} {port : Port K} {t : Tunables} {a b : Plain} {s z : Space K} (go : Plain → Rules Plain) → IsDropping port t a s b z → end_before_heap b ≡ None → TrimsHeaps port (dropped_heaps (length a.tiles) t a go) a s (go b) b z
dropped_none {t = t} {b = b} go d is = trims_as refl (ended_none d.turns t b go is) (d.trims go)

pub dropped_short : {K : Type 0} {port : Port K} {t : Tunables} {a b : Plain} {s z : Space K} (e : HeapEnd) (go : Plain → Rules Plain) → IsDropping port t a s b z → end_before_heap b ≡ Some e → is_enough_end t e ≡ false →
    TrimsHeaps port (dropped_heaps (length a.tiles) t a go) a s (go b) b z
dropped_short {t = t} {b = b} e go d is less = trims_as refl (ended_short d.turns t b e go is less) (d.trims go)

-- ---- the end of the last heap

pub shortened : {K : Type 0} {port : Port K} {a b : Plain} {s z : Space K} (bytes : ℕ) → b ≡ heap_shortened a bytes → Gains a None b → GivesWithin port s (backs.ShrinkHeap a.number (last_heap a) (last_length a) (last_length a - bytes)) z →
    TrimsHeaps port (Does (Gives (backs.ShrinkHeap a.number (last_heap a) (last_length a) (last_length a - bytes))) (Stop (heap_shortened a bytes))) a s (Stop b) b z
shortened {a = a} bytes same gains back =
    let size : ℕ = top_size a - bytes in
    trims_as refl (ap (λ (x : Plain). Stop x) (sym same))
    (gives (backs.ShrinkHeap a.number (last_heap a) (last_length a) (last_length a - bytes)) back gains
    (ap (λ (x : Plain). x.number) same ∙ ap (λ (x : Plain). x.number) (beside_sized a size))
    (ap (λ (x : Plain). x.windows) same ∙ ap (λ (x : Plain). x.windows) (beside_sized a size)) (omega (arith, ap (λ (x : Plain). x.system) same)))

-- ---- in a hold

abbrev with_space : {P K : Type 0} → Outside P K → Space K → Outside P K
with_space o s = record o { space = s }

does_spaced : {P K : Type 0} (m : Means P K) (number : ℕ) (o : Outside P K) (s z : Space K) (d : Deed) → SpaceDoes m.kernel s d z → DoesOutside m number (with_space o s) d (with_space o z)
does_spaced m number o s z (Gives back) h = record { gives = h; others = refl }
does_spaced m number o s z d h = absurd h

walks_spaced : {P K A : Type 0} (m : Means P K) (number : ℕ) (o : Outside P K) {t : Tunables} {r q : Rules A} {s z : Space K} {ss : List Said} →
    Walks t (space_ways m.kernel) r s ss q z → Walks t (ways m number) r (with_space o s) ss q (with_space o z)
walks_spaced m number o walks.here = walks.here
walks_spaced m number o (walks.idled i a) = absurd i
walks_spaced m number o (walks.done {d = d} h a) = walks.done (does_spaced m number o _ _ d h) (walks_spaced m number o a)
walks_spaced m number o (walks.told f h a) = absurd h

-- another arena is trimmed
pub trims_other : {P K : Type 0} {m : Means P K} {t : Tunables} {h : Hold P K} {b : Plain} {space : Space K} (threshold : ℕ) → is_main h.arena ≡ false →
    TrimsHeaps m.kernel (trimmed_heaps t h.arena threshold) h.arena h.space (Stop b) b space → Passes m t (trimmed t h.arena threshold) no_chunk h (Stop b) no_chunk (hold b h.port h.cache space h.said)
trims_other {m = m} {t = t} {h = h} {b = b} {space = space} threshold other trims =
    let rules : trimmed t h.arena threshold ≡ trimmed_heaps t h.arena threshold = cond-false {A = Rules Plain} (is_main h.arena) (trimmed_main t h.arena threshold) (trimmed_heaps t h.arena threshold) other in
    let passes : Passes m t (trimmed_heaps t h.arena threshold) no_chunk h (Stop b) no_chunk (hold b h.port h.cache space h.said) = record {
      reaches = record { said = []; added = sym (append-nil h.said); walks = walks_spaced m h.arena.number (record { port = h.port; cache = h.cache; space = h.space }) (trims.walks t) };
      keeps = record {
        sound = trims.gains.sound;
        number = trims.number;
        windows = trims.windows;
        placed = λ p main. absurd (never main (ap (λ n. nat_eq n 0) trims.number ∙ other));
        cached = λ e. omega arith;
        others = λ n other e. refl;
        kept = λ e. omega (arith, trims.gains.used e);
      };
    } in
    subst (λ (r : Rules Plain). Passes m t r no_chunk h (Stop b) no_chunk (hold b h.port h.cache space h.said)) (sym rules) passes
  where
    never : {x : Bool} → x ≡ true → x ≡ false → ⊥
    never is not_so = true≢false (sym is ∙ not_so)

-- ---- what goes back

pub drop_given : {K : Type 0} {port : Port K} {s z : Space K} (arena heap len arena' heap' len' : ℕ) → arena ≡ arena' → heap ≡ heap' → len ≡ len' → GivesWithin port s (backs.DropHeap arena heap len) z → GivesWithin port s (backs.DropHeap arena' heap' len') z
drop_given {port = port} {s = s} {z = z} arena heap len arena' heap' len' x y l g =
    let same : backs.DropHeap arena heap len ≡ backs.DropHeap arena' heap' len' = cc in
    subst (λ b. GivesWithin port s b z) same g

pub shrink_given : {K : Type 0} {port : Port K} {s z : Space K} (arena heap len new arena' heap' len' new' : ℕ) → arena ≡ arena' → heap ≡ heap' → len ≡ len' → new ≡ new' → GivesWithin port s (backs.ShrinkHeap arena heap len new) z → GivesWithin port s (backs.ShrinkHeap arena' heap' len' new') z
shrink_given {port = port} {s = s} {z = z} arena heap len new arena' heap' len' new' x y l n g =
    let same : backs.ShrinkHeap arena heap len new ≡ backs.ShrinkHeap arena' heap' len' new' = cc in
    subst (λ b. GivesWithin port s b z) same g

-- the end of the last heap is given back by the threshold
pub cut_none : {K : Type 0} {port : Port K} {a : Plain} {s : Space K} {bytes : ℕ} (t : Tunables) (threshold : ℕ) → IsSound a → bytes ≡ spare_bytes t a threshold → bytes ≡ 0 → TrimsHeaps port (heap_cut t threshold a) a s (Stop a) a s
cut_none {a = a} {bytes = bytes} t threshold sound is empty =
    let spare : ℕ = spare_bytes t a threshold in
    let none : nat_lt 0 spare ≡ false = ap (nat_lt 0) (sym is ∙ empty) in
    trims_as (sym (ap (λ (b : Bool). cond b (Does (Gives (backs.ShrinkHeap a.number (last_heap a) (last_length a) (last_length a - spare))) (Stop (heap_shortened a spare))) (Stop a)) none)) refl (trims_here sound)

pub cut_some : {K : Type 0} {port : Port K} {a b : Plain} {s z : Space K} {bytes : ℕ} (t : Tunables) (threshold : ℕ) → bytes ≡ spare_bytes t a threshold → (bytes ≡ 0 → ⊥) → b ≡ heap_shortened a bytes → Gains a None b →
    (arena heap len : ℕ) → arena ≡ a.number → heap ≡ last_heap a → len ≡ last_length a → GivesWithin port s (backs.ShrinkHeap arena heap len (len - bytes)) z → TrimsHeaps port (heap_cut t threshold a) a s (Stop b) b z
cut_some {port = port} {a = a} {b = b} {s = s} {z = z} {bytes = bytes} t threshold is some same gains arena heap len x y l back =
    let given : GivesWithin port s (backs.ShrinkHeap a.number (last_heap a) (last_length a) (last_length a - bytes)) z = shrink_given arena heap len (len - bytes) a.number (last_heap a) (last_length a) (last_length a - bytes) x y l (ap (λ n. n - bytes) l) back in
    let one : TrimsHeaps port (Does (Gives (backs.ShrinkHeap a.number (last_heap a) (last_length a) (last_length a - bytes))) (Stop (heap_shortened a bytes))) a s (Stop b) b z = shortened bytes same gains given in
    let all : nat_lt 0 bytes ≡ true = lt-ltb 0 bytes (positive bytes some) in
    let rules : heap_cut t threshold a ≡ Does (Gives (backs.ShrinkHeap a.number (last_heap a) (last_length a) (last_length a - bytes))) (Stop (heap_shortened a bytes)) =
    subst (λ n. nat_lt 0 n ≡ true → cond (nat_lt 0 (spare_bytes t a threshold)) (Does (Gives (backs.ShrinkHeap a.number (last_heap a) (last_length a) (last_length a - spare_bytes t a threshold))) (Stop (heap_shortened a (spare_bytes t a threshold)))) (Stop a) ≡ Does (Gives (backs.ShrinkHeap a.number (last_heap a) (last_length a) (last_length a - n))) (Stop (heap_shortened a n))) (sym is)
    (λ more. ap (λ (b : Bool). cond b (Does (Gives (backs.ShrinkHeap a.number (last_heap a) (last_length a) (last_length a - spare_bytes t a threshold))) (Stop (heap_shortened a (spare_bytes t a threshold)))) (Stop a)) more) all in
    trims_as (sym rules) refl one
  where
    positive : (n : ℕ) → (n ≡ 0 → ⊥) → 0 < n
    positive zero e = absurd (e refl)
    positive (suc n) e = omega arith

-- ---- whether it is main

pub main_by_number : (a : Plain) (n : ℕ) → n ≡ a.number → n ≡ 0 → is_main a ≡ true
main_by_number a n is zeroth = ap (λ k. nat_eq k 0) (sym is ∙ zeroth)

pub other_by_number : (a : Plain) (n : ℕ) → n ≡ a.number → (n ≡ 0 → ⊥) → is_main a ≡ false
other_by_number a n is some = ne_eqb a.number 0 (λ e. some (is ∙ e))
