-- What is true of each result that a call without trays may come to, and of the names that it leaves.
use Rattle.std.proofs.Common.{◌≡◌, ℕ, ◌-◌, ◌*◌, Bool, true, false, cond, List, [], ◌∷◌, Option, Some, None, refl, sym, ap, ◌∙◌, subst}
use Rattle.std.specs.Prelude.{nat_le, nat_eq, is_some}
use Rattle.std.proofs.lemmas.Bool.{eq-eqb}
use Rattle.block_names.proofs.Tables.{at_same, at_other, place_of, without_none}
use Rattle.chunk_tags.specs.Sizes.{structure_bytes, padded_request}
use Rattle.chunk_tags.specs.declared.block.Block.{Block}
use Rattle.chunk_tags.specs.declared.tunables.Tunables.{Tunables}
use Rattle.mapped_chunks.specs.Mappings.{remap_length, mapping_bytes, chunk_with_lead}
use Rattle.realloc_align.specs.declared.to_size.Resized.{Resized}
use Rattle.realloc_align.specs.declared.to_size.Resized.TheVariants as sizes
use Rattle.thread_cache.specs.Caches.{CacheValue, is_open, takes}
use Rattle.arena_rules.specs.Align.{request_with_lead}
use Rattle.arena_core.specs.Replay.{has_lead_in_range}
use Rattle.arena_core.specs.declared.journal.Act.{Act}
use Rattle.arena_core.specs.declared.journal.Act.TheVariants.{Align, Take}
use Rattle.arena_core.specs.declared.journal.Ended.{Ended}
use Rattle.arena_core.specs.declared.journal.Ended.TheVariants as ends
use Rattle.arena_choice.specs.Books.{BookValue}
use Rattle.arena_choice.specs.declared.choice.Choice.{Choice}
use Rattle.arena_choice.specs.declared.choice.Choice.TheVariants.{Attached, Free, New, Reuse}
use Rattle.own_blocks.specs.declared.own.Own.{Own}
use Rattle.own_blocks.specs.declared.reply.Reply.{Reply}
use Rattle.own_blocks.specs.declared.reply.Reply.TheVariants.{Got, Kept, Null, Freed}
use Rattle.own_blocks.specs.declared.reply.Origin.{Origin}
use Rattle.own_blocks.specs.declared.reply.Origin.TheVariants as origins
use Rattle.own_blocks.specs.declared.reply.To.{To}
use Rattle.own_blocks.specs.declared.reply.To.TheVariants as sinks
use Rattle.own_blocks.specs.declared.reply.Why.{Why}
use Rattle.own_blocks.specs.declared.supplying.Supply.{Supply}
use Rattle.block_names.specs.Names.{NameTable, block_at, with_block, without_block}
use Rattle.arena_holds.specs.Calls.{Call, Done, Holds, HoldsFree, Opens, Books, Maps, Pushes, Frees, Unmaps, Remaps, Posts, Takes, then_call}
use Rattle.arena_holds.specs.Holding.{resized_to}
use Rattle.arena_holds.specs.Searching.{Chosen, search, search_by_choice, choose_and_search, or_in_mapping, search_again, tried_again}
use Rattle.arena_choice.specs.Choices.{choice_of}
use Rattle.own_blocks.specs.Calls.{opening, Supplied, plain_supply, fresh_supply, from_arena, from_cache, names_with, answer_with, named, past_cache, releasing, with_cache, cache_with_structure, supplied_by}
use Rattle.own_blocks.specs.Own.{newest_of_size}
use Rattle.malloc_calls.specs.Mallocs.{padded_malloc, malloc_call, padded_calloc, calloc_call, is_memalign, aligned_malloc, padded_memalign, posix_memalign_call}
use Rattle.own_blocks.specs.Frees.{without_name, free_to, free_of_block, free_of_name, free_call}
use Rattle.malloc_calls.specs.Reallocs.{Resettled, kept_block, got_block, moved_from_arena, moved_from_mapping, after_resize, resize_in_arena, realloc_in_arena, not_remapped, after_remap, realloc_in_mapping, realloc_in, resettled, padded_realloc, realloc_of_block, realloc_of_name, realloc_call}
use Rattle.own_blocks.specs.Exits.{released_past_cache, released_in_turn, cache_in_turn, exit_call}
use Rattle.chunk_tags.specs.Sizes.{structure_size}
use Rattle.trace_replay.specs.Naming.{EmptiesName}

abbrev pub AllResults : {A : Type 0} → (A → Type 0) → Call A → Type 0
AllResults P (Done x) = P x
AllResults P (Holds a act cache next) = (place : ℕ) (ended : Ended) (left : CacheValue) → AllResults P (next place ended left)
AllResults P (HoldsFree start avoid act cache next) = (a place : ℕ) (ended : Ended) (left : CacheValue) → AllResults P (next a place ended left)
AllResults P (Opens a bytes next) = (opened : Bool) → AllResults P (next opened)
AllResults P (Books change next) = (book : BookValue) → AllResults P (next book)
AllResults P (Maps len next) = (start : Option ℕ) → AllResults P (next start)
AllResults P (Pushes b c) = AllResults P c
AllResults P (Frees b c) = AllResults P c
AllResults P (Unmaps b c) = AllResults P c
AllResults P (Remaps b len next) = (start : Option ℕ) → AllResults P (next start)
AllResults P (Posts tray b next) = ⊥
AllResults P (Takes tray next) = ⊥

-- a call that uses no tray
abbrev pub IsQuiet : {A : Type 0} → Call A → Type 0
IsQuiet c = AllResults (λ x. Unit {0}) c

-- one call behind another, by what is true of each result of the first
results_then_by : {A B : Type 0} (Q : A → Type 0) (P : B → Type 0) (c : Call A) (f : A → Call B) → AllResults Q c → ((x : A) → Q x → AllResults P (f x)) →
    AllResults P (then_call c f)
results_then_by Q P (Done x) f q h = h x q
results_then_by Q P (Holds a act cache next) f q h = λ place ended left. results_then_by Q P (next place ended left) f (q place ended left) h
results_then_by Q P (HoldsFree start avoid act cache next) f q h = λ a place ended left. results_then_by Q P (next a place ended left) f (q a place ended left) h
results_then_by Q P (Opens a bytes next) f q h = λ opened. results_then_by Q P (next opened) f (q opened) h
results_then_by Q P (Books change next) f q h = λ book. results_then_by Q P (next book) f (q book) h
results_then_by Q P (Maps len next) f q h = λ start. results_then_by Q P (next start) f (q start) h
results_then_by Q P (Pushes b c) f q h = results_then_by Q P c f q h
results_then_by Q P (Frees b c) f q h = results_then_by Q P c f q h
results_then_by Q P (Unmaps b c) f q h = results_then_by Q P c f q h
results_then_by Q P (Remaps b len next) f q h = λ start. results_then_by Q P (next start) f (q start) h
results_then_by Q P (Posts tray b next) f q h = absurd q
results_then_by Q P (Takes tray next) f q h = absurd q

-- whatever the first comes to
pub results_then : {A B : Type 0} (P : B → Type 0) (c : Call A) (f : A → Call B) → IsQuiet c → ((x : A) → AllResults P (f x)) → AllResults P (then_call c f)
results_then P c f quiet h = results_then_by (λ x. Unit {0}) P c f quiet (λ x u. h x)

results_if : {A : Type 0} (P : A → Type 0) (b : Bool) (c d : Call A) → (b ≡ true → AllResults P c) → (b ≡ false → AllResults P d) → AllResults P (cond b c d)
results_if P true c d h k = h refl
results_if P false c d h k = k refl

-- ---- calls that use no tray

quiet_then : {A B : Type 0} (c : Call A) (f : A → Call B) → IsQuiet c → ((x : A) → IsQuiet (f x)) → IsQuiet (then_call c f)
quiet_then c f quiet h = results_then (λ x. Unit {0}) c f quiet h

quiet_if : {A : Type 0} (b : Bool) (c d : Call A) → IsQuiet c → IsQuiet d → IsQuiet (cond b c d)
quiet_if true c d h k = h
quiet_if false c d h k = k

quiet_choice : (thread : ℕ) (fresh : Bool) (bytes : ℕ) (act : Act) (cache : CacheValue) (choice : Choice) → IsQuiet (search_by_choice thread fresh bytes act cache choice)
quiet_choice thread fresh bytes act cache (Attached a) = λ place ended left. tt
quiet_choice thread fresh bytes act cache (Free a) = λ place ended left. tt
quiet_choice thread fresh bytes act cache (New a) = elim [ true ↦ λ place ended left. tt | false ↦ tt ]
quiet_choice thread fresh bytes act cache (Reuse start) = λ a place ended left book. tt

quiet_chosen : (t : Tunables) (thread : ℕ) (fresh : Bool) (bytes : ℕ) (act : Act) (cache : CacheValue) → IsQuiet (choose_and_search t thread fresh bytes act cache)
quiet_chosen t thread fresh bytes act cache = λ book. quiet_choice thread fresh bytes act cache (choice_of book thread fresh t)

quiet_or_mapping : (act : Act) (cache : CacheValue) (c : Chosen) → IsQuiet (or_in_mapping act cache c)
quiet_or_mapping act cache None = λ start. tt
quiet_or_mapping act cache (Some r) = tt

quiet_again : (t : Tunables) (thread bytes a : ℕ) (act : Act) (cache : CacheValue) → IsQuiet (search_again t thread bytes a act cache)
quiet_again t thread bytes a act cache =
    quiet_if (nat_eq a 0) _ _
    (quiet_then (choose_and_search t thread true bytes act cache) (or_in_mapping act cache) (quiet_chosen t thread true bytes act cache) (quiet_or_mapping act cache))
    (λ place ended left. tt)

quiet_tried : (t : Tunables) (thread bytes : ℕ) (act : Act) (cache : CacheValue) (c : Chosen) → IsQuiet (tried_again t thread bytes act cache c)
quiet_tried t thread bytes act cache None = λ start. tt
quiet_tried t thread bytes act cache (Some r) = quiet_if (is_some r.1.block) _ _ tt (quiet_again t thread bytes r.0 act r.1.cache)

quiet_search : (t : Tunables) (thread bytes again : ℕ) (act : Act) (cache : CacheValue) → IsQuiet (search t thread bytes again act cache)
quiet_search t thread bytes again act cache =
    quiet_then (choose_and_search t thread false bytes act cache) (tried_again t thread again act cache) (quiet_chosen t thread false bytes act cache)
    (quiet_tried t thread again act cache)

quiet_opening : (t : Tunables) (thread : ℕ) (cache : CacheValue) → IsQuiet (opening t thread cache)
quiet_opening t thread cache =
    quiet_if (is_open cache) _ _ tt
    (quiet_then (search t thread structure_bytes structure_bytes (Take structure_size) cache) (λ x. Done (cache_with_structure t x.block x.cache))
    (quiet_search t thread structure_bytes structure_bytes (Take structure_size) cache) (λ x. tt))

quiet_arena : (t : Tunables) (thread bytes again : ℕ) (act : Act) (cache : CacheValue) → IsQuiet (from_arena t thread bytes again act cache)
quiet_arena t thread bytes again act cache =
    quiet_then (search t thread bytes again act cache) (λ x. Done (supplied_by x)) (quiet_search t thread bytes again act cache) (λ x. tt)

quiet_cache : (t : Tunables) (thread bytes nb : ℕ) (o : Option Block) (cache : CacheValue) → IsQuiet (from_cache t thread bytes nb o cache)
quiet_cache t thread bytes nb None cache = quiet_arena t thread bytes bytes (Take nb) cache
quiet_cache t thread bytes nb (Some b) cache = tt

quiet_plain : (t : Tunables) (thread bytes nb : ℕ) (cache : CacheValue) → IsQuiet (plain_supply t thread bytes nb cache)
quiet_plain t thread bytes nb cache =
    quiet_then (opening t thread cache) (λ c. from_cache t thread bytes nb (newest_of_size nb c) c) (quiet_opening t thread cache)
    (λ c. quiet_cache t thread bytes nb (newest_of_size nb c) c)

quiet_fresh : (t : Tunables) (thread bytes nb : ℕ) (cache : CacheValue) → IsQuiet (fresh_supply t thread bytes nb cache)
quiet_fresh t thread bytes nb cache =
    quiet_then (opening t thread cache) (λ c. from_arena t thread bytes bytes (Take nb) c) (quiet_opening t thread cache)
    (λ c. quiet_arena t thread bytes bytes (Take nb) c)

quiet_past : (t : Tunables) (a : ℕ) (b : Block) (cache : CacheValue) → IsQuiet (past_cache t a b cache)
quiet_past t a b cache = quiet_if (nat_le b.size t.max_fast) _ _ tt (λ place ended left. tt)

quiet_releasing : (t : Tunables) (a : ℕ) (b : Block) (cache : CacheValue) → IsQuiet (releasing t a b cache)
quiet_releasing t a b cache = quiet_if (takes cache b) _ _ tt (quiet_past t a b cache)

quiet_released : (t : Tunables) (b : Block) (o : Option ℕ) → IsQuiet (released_past_cache t b o)
quiet_released t b None = tt
quiet_released t b (Some a) = quiet_then (past_cache t a b None) (λ to. Done tt) (quiet_past t a b None) (λ to. tt)

quiet_in_turn : (t : Tunables) (bs : List Block) → IsQuiet (released_in_turn t bs)
quiet_in_turn t [] = tt
quiet_in_turn t (b ∷ bs) = quiet_then (released_past_cache t b b.arena) (λ u. released_in_turn t bs) (quiet_released t b b.arena) (λ u. quiet_in_turn t bs)

pub quiet_exit : (t : Tunables) (thread : ℕ) (own : Own) → IsQuiet (exit_call t thread own)
quiet_exit t thread own =
    quiet_then (released_in_turn t (cache_in_turn own.cache)) _ (quiet_in_turn t (cache_in_turn own.cache)) (λ u book. tt)

-- ---- the names of a call that makes one

-- what a call leaves of all names but its own: they hold what they held
abbrev pub KeepsOthers : ℕ → NameTable → Reply × Own → Type 0
KeepsOthers name names r = (n : ℕ) → (n ≡ name → ⊥) → block_at r.1.names n ≡ block_at names n

supplied_others : (name : ℕ) (o : Option Supply) (names : NameTable) (n : ℕ) → (n ≡ name → ⊥) → block_at (names_with name o names) n ≡ block_at names n
supplied_others name None names n other = refl
supplied_others name (Some s) names n other = at_other name n (Some s.block) names other

named_keeps : (name : ℕ) (own : Own) (c : Call Supplied) → IsQuiet c → AllResults (KeepsOthers name own.names) (named name own c)
named_keeps name own c quiet =
    results_then (KeepsOthers name own.names) c (λ s. Done (answer_with name own s)) quiet (λ s. supplied_others name s.0 own.names)

padded_keeps : (t : Tunables) (thread name size : ℕ) (o : Option ℕ) (own : Own) → AllResults (KeepsOthers name own.names) (padded_malloc t thread name size o own)
padded_keeps t thread name size None own = λ n other. refl
padded_keeps t thread name size (Some nb) own = named_keeps name own (plain_supply t thread size nb own.cache) (quiet_plain t thread size nb own.cache)

pub malloc_keeps : (t : Tunables) (thread name size : ℕ) (own : Own) → AllResults (KeepsOthers name own.names) (malloc_call t thread name size own)
malloc_keeps t thread name size own = padded_keeps t thread name size (padded_request size) own

fresh_keeps : (t : Tunables) (thread name product : ℕ) (o : Option ℕ) (own : Own) → AllResults (KeepsOthers name own.names) (padded_calloc t thread name product o own)
fresh_keeps t thread name product None own = λ n other. refl
fresh_keeps t thread name product (Some nb) own = named_keeps name own (fresh_supply t thread product nb own.cache) (quiet_fresh t thread product nb own.cache)

pub calloc_keeps : (t : Tunables) (thread name n size : ℕ) (own : Own) → AllResults (KeepsOthers name own.names) (calloc_call t thread name n size own)
calloc_keeps t thread name n size own = fresh_keeps t thread name (n * size) (padded_request (n * size)) own

aligned_keeps : (t : Tunables) (thread name align size nb : ℕ) (own : Own) → AllResults (KeepsOthers name own.names) (aligned_malloc t thread name align size nb own)
aligned_keeps t thread name align size nb own =
    results_if (KeepsOthers name own.names) (nat_le align 16) _ _ (λ e. padded_keeps t thread name size (Some nb) own)
    (λ e. results_if (KeepsOthers name own.names) (has_lead_in_range align nb) _ _
    (λ f. named_keeps name own (from_arena t thread (request_with_lead align size) size (Align align nb) own.cache)
    (quiet_arena t thread (request_with_lead align size) size (Align align nb) own.cache))
    (λ f n other. refl))

memalign_padded_keeps : (t : Tunables) (thread name align size : ℕ) (o : Option ℕ) (own : Own) → AllResults (KeepsOthers name own.names) (padded_memalign t thread name align size o own)
memalign_padded_keeps t thread name align size None own = λ n other. refl
memalign_padded_keeps t thread name align size (Some nb) own =
    results_if (KeepsOthers name own.names) (is_memalign align) _ _ (λ e. aligned_keeps t thread name align size nb own) (λ e n other. refl)

pub memalign_keeps : (t : Tunables) (thread name align size : ℕ) (own : Own) → AllResults (KeepsOthers name own.names) (posix_memalign_call t thread name align size own)
memalign_keeps t thread name align size own = memalign_padded_keeps t thread name align size (padded_request size) own

-- ---- the name of a block that is freed

-- a block that is freed comes to its place, and its name to nothing
freed_results : (P : Reply × Own → Type 0) (t : Tunables) (thread name : ℕ) (b : Block) (o : Option ℕ) (own : Own) →
    ((to : To) (cache : CacheValue) → P (Freed to, record { cache = cache; names = without_block name own.names })) →
    AllResults P (free_of_block t thread name b o own)
freed_results P t thread name b None own h = h sinks.Unmapped own.cache
freed_results P t thread name b (Some a) own h =
    results_then P (opening t thread own.cache) (λ cache. free_to t a name b (with_cache cache own)) (quiet_opening t thread own.cache) (λ cache.
    results_then P (releasing t a b cache) (λ r. Done (Freed r.0, with_cache r.1 (without_name name (with_cache cache own)))) (quiet_releasing t a b cache)
    (λ r. h r.0 r.1))

pub emptied : (name : ℕ) (names : NameTable) → EmptiesName name names (without_block name names)
emptied name names = record {
  others = λ n other. at_other name n None names other;
  gone = without_none name names;
}

abbrev pub Empties : ℕ → NameTable → Reply × Own → Type 0
Empties name names r = EmptiesName name names r.1.names

freed_empties : (t : Tunables) (thread name : ℕ) (o : Option Block) (own : Own) → block_at own.names name ≡ o →
    AllResults (Empties name own.names) (free_of_name t thread name o own)
freed_empties t thread name None own holds = record { others = λ n other. refl; gone = holds }
freed_empties t thread name (Some b) own holds =
    freed_results (Empties name own.names) t thread name b b.arena own (λ to cache. emptied name own.names)

pub free_empties : (t : Tunables) (thread name : ℕ) (own : Own) → AllResults (Empties name own.names) (free_call t thread name own)
free_empties t thread name own = freed_empties t thread name (block_at own.names name) own refl

-- ---- the name of a block that gets another size

-- what realloc to a size leaves of its own name
pub record LeavesName (name size : ℕ) (names : NameTable) (r : Reply × Own) : Type 0 where
  pub none : block_at names name ≡ None → block_at r.1.names name ≡ None
  pub gone : size ≡ 0 → block_at r.1.names name ≡ None
  pub stays : (why : Why) → r.0 ≡ Null why → block_at r.1.names name ≡ block_at names name

-- no other answer is null
got_not_null : {X : Type 0} (addr size : ℕ) (from : Origin) (why : Why) → Got addr size from ≡ Null why → X
got_not_null addr size from why e = absurd cc

kept_not_null : {X : Type 0} (addr size : ℕ) (from : Origin) (why : Why) → Kept addr size from ≡ Null why → X
kept_not_null addr size from why e = absurd cc

freed_not_null : {X : Type 0} (to : To) (why : Why) → Freed to ≡ Null why → X
freed_not_null to why e = absurd cc

-- where the answer is null, the block is the one that was there
abbrev Stays : Block → Resettled → Type 0
Stays b r = (why : Why) → r.0.reply ≡ Null why → r.0.block ≡ b

moved_stays : (t : Tunables) (a : ℕ) (b : Block) (s : Supplied) → AllResults (Stays b) (moved_from_arena t a b s)
moved_stays t a b (None, cache) = λ why e. refl
moved_stays t a b (Some s, cache) =
    results_then (Stays b) (releasing t a b cache) (λ r. Done (got_block s.from s.block, r.1)) (quiet_releasing t a b cache) (λ r why e. got_not_null _ _ _ why e)

moved_mapping_stays : (b : Block) (s : Supplied) → AllResults (Stays b) (moved_from_mapping b s)
moved_mapping_stays b (None, cache) = λ why e. refl
moved_mapping_stays b (Some s, cache) = λ why e. got_not_null _ _ _ why e

placed_either : {X : Type 0} (v : Bool) (c x : Block) → cond v (sizes.Kept c) (sizes.Moved c) ≡ sizes.Refused x → X
placed_either true c x e = absurd cc
placed_either false c x e = absurd cc

same_refused : (b x : Block) → sizes.Refused b ≡ sizes.Refused x → x ≡ b
same_refused b x e = cc

refused_is : (a : ℕ) (b : Block) (nb : ℕ) (ended : Ended) (x : Block) → resized_to a b nb ended ≡ sizes.Refused x → x ≡ b
refused_is a b nb (ends.Got at size mapped) x e = placed_either _ _ x e
refused_is a b nb ends.Done x e = same_refused b x e
refused_is a b nb ends.Refused x e = same_refused b x e
refused_is a b nb ends.Short x e = same_refused b x e

after_stays : (t : Tunables) (thread size nb a place : ℕ) (b : Block) (r : Resized) (cache : CacheValue) → ((x : Block) → r ≡ sizes.Refused x → x ≡ b) →
    AllResults (Stays b) (after_resize t thread size nb a place r cache)
after_stays t thread size nb a place b (sizes.Kept c) cache same = λ why e. kept_not_null _ _ _ why e
after_stays t thread size nb a place b (sizes.Moved c) cache same = λ why e. got_not_null _ _ _ why e
after_stays t thread size nb a place b (sizes.Refused x) cache same =
    results_then (Stays b) (plain_supply t thread size nb cache) (moved_from_arena t a x) (quiet_plain t thread size nb cache)
    (λ s. subst (λ (y : Block). AllResults (Stays b) (moved_from_arena t a y s)) (sym (same x refl)) (moved_stays t a b s))

in_arena_stays : (t : Tunables) (thread size nb a : ℕ) (b : Block) (cache : CacheValue) → AllResults (Stays b) (realloc_in_arena t thread size nb a b cache)
in_arena_stays t thread size nb a b cache =
    results_then (Stays b) (opening t thread cache) (resize_in_arena t thread size nb a b) (quiet_opening t thread cache)
    (λ c place ended left. after_stays t thread size nb a place b (resized_to a b nb ended) left (refused_is a b nb ended))

kept_or_got : {X : Type 0} (v : Bool) (c : Block) (from : Origin) (why : Why) → (cond v (kept_block from c) (got_block from c)).reply ≡ Null why → X
kept_or_got true c from why e = kept_not_null _ _ _ why e
kept_or_got false c from why e = got_not_null _ _ _ why e

not_remapped_stays : (t : Tunables) (thread size nb : ℕ) (b : Block) (cache : CacheValue) → AllResults (Stays b) (not_remapped t thread size nb b cache)
not_remapped_stays t thread size nb b cache =
    results_if (Stays b) (nat_le nb (b.size - 8)) _ _ (λ v why e. kept_not_null _ _ _ why e)
    (λ v. results_then (Stays b) (plain_supply t thread size nb cache) (moved_from_mapping b) (quiet_plain t thread size nb cache) (moved_mapping_stays b))

after_remap_stays : (t : Tunables) (thread size nb : ℕ) (b : Block) (cache : CacheValue) (start : Option ℕ) → AllResults (Stays b) (after_remap t thread size nb b cache start)
after_remap_stays t thread size nb b cache None = not_remapped_stays t thread size nb b cache
after_remap_stays t thread size nb b cache (Some start) =
    let c : Block = chunk_with_lead (remap_length b nb) b start in
    λ why e. kept_or_got (nat_eq c.addr b.addr) c origins.Mapped why e

in_mapping_stays : (t : Tunables) (thread size nb : ℕ) (b : Block) (cache : CacheValue) → AllResults (Stays b) (realloc_in_mapping t thread size nb b cache)
in_mapping_stays t thread size nb b cache =
    results_if (Stays b) (nat_eq (remap_length b nb) (mapping_bytes b)) _ _ (λ v why e. kept_not_null _ _ _ why e)
    (λ v start. after_remap_stays t thread size nb b cache start)

realloc_stays : (t : Tunables) (thread size nb : ℕ) (b : Block) (o : Option ℕ) (cache : CacheValue) → AllResults (Stays b) (realloc_in t thread size nb b o cache)
realloc_stays t thread size nb b None cache = in_mapping_stays t thread size nb b cache
realloc_stays t thread size nb b (Some a) cache = in_arena_stays t thread size nb a b cache

settled_leaves : (name size : ℕ) (b : Block) (own : Own) (r : Resettled) → block_at own.names name ≡ Some b → (size ≡ 0 → ⊥) → Stays b r →
    LeavesName name size own.names (resettled name own r)
settled_leaves name size b own r at positive stays = record {
  none = λ e. let no : None ≡ Some b = sym e ∙ at in absurd cc;
  gone = λ z. absurd (positive z);
  stays = λ why e. ap (λ (x : Block). block_at (with_block name x own.names) name) (stays why e) ∙ at_same name (Some b) own.names (place_of own.names name b at) ∙ sym at;
}

padded_leaves : (t : Tunables) (thread name size : ℕ) (o : Option ℕ) (b : Block) (own : Own) → block_at own.names name ≡ Some b → (size ≡ 0 → ⊥) →
    AllResults (LeavesName name size own.names) (padded_realloc t thread name size o b own)
padded_leaves t thread name size None b own at positive = record { none = λ e. e; gone = λ z. absurd (positive z); stays = λ why e. refl }
padded_leaves t thread name size (Some nb) b own at positive =
    results_then_by (Stays b) (LeavesName name size own.names) (realloc_in t thread size nb b b.arena own.cache) (λ r. Done (resettled name own r))
    (realloc_stays t thread size nb b b.arena own.cache) (λ r stays. settled_leaves name size b own r at positive stays)

freed_leaves : (name size : ℕ) (names : NameTable) (to : To) (cache : CacheValue) →
    LeavesName name size names (Freed to, record { cache = cache; names = without_block name names })
freed_leaves name size names to cache = record {
  none = λ e. without_none name names;
  gone = λ z. without_none name names;
  stays = λ why e. freed_not_null to why e;
}

not_zero : (size : ℕ) → nat_eq size 0 ≡ false → size ≡ 0 → ⊥
not_zero size other z = let yes : nat_eq size 0 ≡ true = eq-eqb size 0 z in cc

block_leaves : (t : Tunables) (thread name size : ℕ) (b : Block) (own : Own) → block_at own.names name ≡ Some b →
    AllResults (LeavesName name size own.names) (realloc_of_block t thread name size b own)
block_leaves t thread name size b own at =
    results_if (LeavesName name size own.names) (nat_eq size 0) _ _
    (λ z. freed_results (LeavesName name size own.names) t thread name b b.arena own (λ to cache. freed_leaves name size own.names to cache))
    (λ other. padded_leaves t thread name size (padded_request size) b own at (not_zero size other))

name_leaves : (t : Tunables) (thread name size : ℕ) (o : Option Block) (own : Own) → block_at own.names name ≡ o →
    AllResults (LeavesName name size own.names) (realloc_of_name t thread name size o own)
name_leaves t thread name size None own at = record { none = λ e. e; gone = λ z. at; stays = λ why e. refl }
name_leaves t thread name size (Some b) own at = block_leaves t thread name size b own at

pub realloc_keeps : (t : Tunables) (thread name size : ℕ) (own : Own) → AllResults (LeavesName name size own.names) (realloc_call t thread name size own)
realloc_keeps t thread name size own = name_leaves t thread name size (block_at own.names name) own refl
