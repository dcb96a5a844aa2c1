-- Names and trays that hold blocks are held, and posted to, in the text too.
use Rattle.std.proofs.Common.{◌≡◌, ℕ, ◌*◌, ◌%◌, ◌<◌, ◌≤◌, ◌==◌, ◌⊎◌, inl, inr, Bool, true, false, not, ◌&&◌, ◌||◌, cond, eqb, List, Option, Some, None, refl, sym, ap, ◌∙◌, subst, arith, eq-eqb}
use Rattle.std.specs.Prelude.{nat_le}
use Rattle.std.proofs.lemmas.Bool.Decides.{nat_tests, eqb_tells}
use Rattle.std.proofs.lemmas.Bool.{cases_lt}
use Rattle.chunk_tags.specs.Pages.{user_address}
use Rattle.chunk_tags.specs.Sizes.{chunk_size_of}
use Rattle.chunk_tags.specs.declared.block.Block.{Block}
use Rattle.arena_core.specs.Arenas.{need_of}
use Rattle.block_names.specs.Names.{NameTable, has_place, block_at, with_place}
use Rattle.block_names.proofs.Tables.{at_placed, place_made}
use Rattle.own_blocks.specs.Calls.{FitsName}
use Rattle.malloc_calls.specs.Mallocs.{IsAlignedName}
use Rattle.malloc_calls.specs.Reallocs.{IfAnswered}
use Rattle.malloc_calls.specs.Threads.{names_of, own_of}
use Rattle.malloc_calls.specs.declared.thread.Thread.{Thread}
use Rattle.own_blocks.specs.declared.reply.Reply.{Reply}
use Rattle.own_blocks.specs.declared.reply.Reply.TheVariants.{Got, Kept, Null, Freed, NotYours, Posted, Taken, Missed, Ended}
use Rattle.own_blocks.specs.declared.reply.Why.{Why}
use Rattle.serial_places.specs.Trays.{tray_at}
use Rattle.serial_places.specs.declared.tray.Tray.{Tray}
use Rattle.serial_places.specs.declared.tray.Tray.TheVariants.{Empty, Full}
use Rattle.trace_text.specs.declared.trace.Call.{Call}
use Rattle.trace_text.specs.declared.trace.Call.TheVariants.{Malloc, Calloc, Realloc, Align, Free, Post, Take, Exit}
use Rattle.trace_text.specs.declared.trace.Line.{Line}
use Rattle.trace_text.specs.Before.{held_after, is_post}
use Rattle.trace_replay.specs.Naming.{FitsThread, LeavesBlocks, MakesName, ResizesName, EmptiesName, PostsName, TakesName}
use Rattle.trace_replay.specs.Tiling.{Wanted, Wishes, bytes_wanted, aligned_wanted, wanted_anew, wanted_taken, wanted_posted, named_next, posted_next, wished_after, IsLargeEnough, IsFit}
use Rattle.trace_replay.proofs.CallResults.{KeepsOthers, LeavesName, Empties}
use Rattle.trace_replay.proofs.Keeping.{readied}

-- ---- what is enough

-- each number is a multiple of 1
pub bytes_enough : (size : ℕ) (b : Block) → need_of b.arena (chunk_size_of size) ≤ b.size → IsLargeEnough (bytes_wanted size) b
bytes_enough size b le = record { size = le; place = omega arith }

aligned_place : (align : ℕ) (b : Block) → (16 < align → user_address b.addr % align ≡ 0) → user_address b.addr % cond (nat_le align 16) 1 align ≡ 0
aligned_place align b above =
    elim (cases_lt 16 align) [
      | inl more ↦
          let no : nat_le align 16 ≡ false = grind (arith, nat_tests) in
          subst (λ (v : Bool). user_address b.addr % cond v 1 align ≡ 0) (sym no) (above more)
      | inr within ↦
          let yes : nat_le align 16 ≡ true = grind (arith, nat_tests) in
          let each : user_address b.addr % 1 ≡ 0 = omega arith in
          subst (λ (v : Bool). user_address b.addr % cond v 1 align ≡ 0) (sym yes) each
    ]

-- ---- what a call leaves of the names before a place was made

names_there : {K : Type 0} (th there : Thread K) (name : ℕ) → there ≡ readied name th → names_of there ≡ with_place name (names_of th)
names_there {K = K} th there name is = ap (λ (x : Thread K). names_of x) is

pub block_there : {K : Type 0} (th there : Thread K) (name n : ℕ) → there ≡ readied name th → block_at (names_of there) n ≡ block_at (names_of th) n
block_there th there name n is = ap (λ names. block_at names n) (names_there th there name is) ∙ at_placed name n (names_of th)

-- a name that holds nothing holds nothing there, and has a place
pub nothing_there : {K : Type 0} (th there : Thread K) (name : ℕ) → there ≡ readied name th → block_at (names_of th) name ≡ None → block_at (names_of there) name ≡ None
nothing_there th there name is none = block_there th there name name is ∙ none

pub room_there : {K : Type 0} (th there : Thread K) (name : ℕ) → there ≡ readied name th → has_place (names_of there) name ≡ true
room_there th there name is = ap (λ names. has_place names name) (names_there th there name is) ∙ place_made name (names_of th)

pub makes_bytes : {K : Type 0} (th there new : Thread K) (name size : ℕ) (reply : Reply) → there ≡ readied name th → KeepsOthers name (names_of there) (reply, own_of new) →
    FitsName (chunk_size_of size) name (names_of new) → MakesName name (bytes_wanted size) (names_of th) (names_of new)
makes_bytes th there new name size reply is others fits = record {
  others = λ n other. others n other ∙ block_there th there name n is;
  made = λ b at. bytes_enough size b (fits b at);
}

pub makes_aligned : {K : Type 0} (th there new : Thread K) (name align size : ℕ) (reply : Reply) → there ≡ readied name th → KeepsOthers name (names_of there) (reply, own_of new) →
    FitsName (chunk_size_of size) name (names_of new) → (16 < align → IsAlignedName align name (names_of new)) → MakesName name (aligned_wanted align size) (names_of th) (names_of new)
makes_aligned th there new name align size reply is others fits aligned = record {
  others = λ n other. others n other ∙ block_there th there name n is;
  made = λ b at. record { size = fits b at; place = aligned_place align b (λ more. aligned more b at) };
}

pub resizes_name : {K : Type 0} (th there new : Thread K) (name size : ℕ) (reply : Reply) → there ≡ readied name th → LeavesName name size (names_of there) (reply, own_of new) →
    ((n : ℕ) → (n ≡ name → ⊥) → block_at (names_of new) n ≡ block_at (names_of there) n) → IfAnswered reply (FitsName (chunk_size_of size) name (names_of new)) →
    ResizesName name size reply (names_of th) (names_of new)
resizes_name th there new name size reply is leaves others made = record {
  others = λ n other. others n other ∙ block_there th there name n is;
  none = λ e. leaves.none (nothing_there th there name is e);
  gone = leaves.gone;
  stays = λ why e. leaves.stays why e ∙ block_there th there name name is;
  made = made;
}

pub empties_name : {K : Type 0} (th there new : Thread K) (name : ℕ) (reply : Reply) → there ≡ readied name th → Empties name (names_of there) (reply, own_of new) →
    EmptiesName name (names_of th) (names_of new)
empties_name th there new name reply is empties = record {
  others = λ n other. empties.others n other ∙ block_there th there name n is;
  gone = empties.gone;
}

pub posts_name : {K : Type 0} (th there new : Thread K) (name tray : ℕ) (reply : Reply) (trays left : List Tray) → there ≡ readied name th →
    PostsName name tray reply (names_of there) (names_of new) trays left → PostsName name tray reply (names_of th) (names_of new) trays left
posts_name th there new name tray reply trays left is p = record {
  empties = empties_name th there new name reply is p.empties;
  others = p.others;
  posted = λ b at. let q = p.posted b at in (q.0, sym (block_there th there name name is) ∙ q.1);
}

pub takes_name : {K : Type 0} (th there new : Thread K) (name tray : ℕ) (reply : Reply) (trays left : List Tray) → there ≡ readied name th →
    TakesName name tray reply (names_of there) (names_of new) trays left → TakesName name tray reply (names_of th) (names_of new) trays left
takes_name th there new name tray reply trays left is p = record {
  others = λ n other. p.others n other ∙ block_there th there name n is;
  empty = p.empty;
  stays = p.stays;
  taken = p.taken;
}

-- ---- what a line leaves

or_false : (x y : Bool) → (x || y) ≡ false → (x ≡ false) × (y ≡ false)
or_false true y h = absurd cc
or_false false y h = (refl, h)

and_false : (x y : Bool) → (not x && y) ≡ false → (x ≡ true) ⊎ (y ≡ false)
and_false true y h = inl refl
and_false false y h = inr h

both_true : (x y : Bool) → (x && y) ≡ true → (x ≡ true) × (y ≡ true)
both_true true y h = (refl, h)
both_true false y h = absurd cc

-- what stands under a name of the line's own thread
own_wish : (w : Wishes) (line : Line) (reply : Reply) (n : ℕ) → (wished_after w (line, reply)).named line.thread n ≡ named_next w n line.call reply (w.named line.thread n)
own_wish w line reply n = ap (λ v. cond v (named_next w n line.call reply (w.named line.thread n)) (w.named line.thread n)) (eq-eqb line.thread line.thread refl)

-- what is so of one name and one tray more, is so of all
blocks_left : (line : Line) (reply : Reply) (names now : NameTable) (trays left : List Tray) →
    ((n : ℕ) (was : Bool) → (was ≡ false → block_at names n ≡ None) → held_after n was line.call ≡ false → block_at now n ≡ None) →
    ((n : ℕ) → is_post n line.call ≡ false → tray_at trays n ≡ Empty → tray_at left n ≡ Empty) →
    ((w : Wishes) → FitsThread w line.thread names trays → (n : ℕ) (b : Block) → block_at now n ≡ Some b → IsFit (named_next w n line.call reply (w.named line.thread n)) b) →
    ((w : Wishes) → FitsThread w line.thread names trays → (n : ℕ) (b : Block) → tray_at left n ≡ Full b → IsFit (posted_next w line.thread n line.call reply) b) →
    LeavesBlocks line reply names now trays left
blocks_left line reply names now trays left held empty named posted = record {
  held = held;
  empty = empty;
  fit = λ w fits. record {
    named = λ n b at. subst (λ (o : Option Wanted). IsFit o b) (sym (own_wish w line reply n)) (named w fits n b at);
    posted = posted w fits;
  };
}

-- a line that makes a name
made_leaves : (line : Line) (reply : Reply) (name : ℕ) (wanted : Wanted) (names now : NameTable) (trays left : List Tray) →
    ((n : ℕ) (was : Bool) → held_after n was line.call ≡ (name == n || was)) →
    ((w : Wishes) (n : ℕ) (was : Option Wanted) → named_next w n line.call reply was ≡ cond (eqb name n) (Some wanted) was) →
    ((w : Wishes) (n : ℕ) → posted_next w line.thread n line.call reply ≡ w.posted n) →
    MakesName name wanted names now → left ≡ trays → LeavesBlocks line reply names now trays left
made_leaves line reply name wanted names now trays left holds wants posts makes same =
    blocks_left line reply names now trays left
    (λ n was before not_held.
    let parts : ((name == n) ≡ false) × (was ≡ false) = or_false (name == n) was (sym (holds n was) ∙ not_held) in
    let other : n ≡ name → ⊥ = grind (arith, nat_tests) in
    makes.others n other ∙ before parts.1)
    (λ n none e. ap (λ ts. tray_at ts n) same ∙ e)
    (λ w fits n b is.
    subst (λ (o : Option Wanted). IsFit o b) (sym (wants w n (w.named line.thread n)))
    (elim (eqb_tells name n) [
      | inl equal ↦
          subst (λ (v : Bool). IsFit (cond v (Some wanted) (w.named line.thread n)) b) (sym equal.0) (makes.made b (ap (block_at now) equal.1 ∙ is))
      | inr other ↦
          subst (λ (v : Bool). IsFit (cond v (Some wanted) (w.named line.thread n)) b) (sym other.0)
          (fits.named n b (sym (makes.others n (λ e. other.1 (sym e))) ∙ is))
    ]))
    (λ w fits n b is. subst (λ (o : Option Wanted). IsFit o b) (sym (posts w n)) (fits.posted n b (sym (ap (λ ts. tray_at ts n) same) ∙ is)))

pub malloc_leaves : (line : Line) (reply : Reply) (name size : ℕ) (names now : NameTable) (trays left : List Tray) → line.call ≡ Malloc name size →
    MakesName name (bytes_wanted size) names now → left ≡ trays → LeavesBlocks line reply names now trays left
malloc_leaves line reply name size names now trays left call makes same =
    made_leaves line reply name (bytes_wanted size) names now trays left (λ n was. ap (held_after n was) call) (λ w n was. ap (λ (c : Call). named_next w n c reply was) call)
    (λ w n. ap (λ (c : Call). posted_next w line.thread n c reply) call) makes same

pub calloc_leaves : (line : Line) (reply : Reply) (name n size : ℕ) (names now : NameTable) (trays left : List Tray) → line.call ≡ Calloc name n size →
    MakesName name (bytes_wanted (n * size)) names now → left ≡ trays → LeavesBlocks line reply names now trays left
calloc_leaves line reply name n size names now trays left call makes same =
    made_leaves line reply name (bytes_wanted (n * size)) names now trays left (λ m was. ap (held_after m was) call) (λ w m was. ap (λ (c : Call). named_next w m c reply was) call)
    (λ w m. ap (λ (c : Call). posted_next w line.thread m c reply) call) makes same

pub memalign_leaves : (line : Line) (reply : Reply) (name align size : ℕ) (names now : NameTable) (trays left : List Tray) → line.call ≡ Align name align size →
    MakesName name (aligned_wanted align size) names now → left ≡ trays → LeavesBlocks line reply names now trays left
memalign_leaves line reply name align size names now trays left call makes same =
    made_leaves line reply name (aligned_wanted align size) names now trays left (λ n was. ap (held_after n was) call) (λ w n was. ap (λ (c : Call). named_next w n c reply was) call)
    (λ w n. ap (λ (c : Call). posted_next w line.thread n c reply) call) makes same

-- what a block is behind realloc
resized_fit : (name size : ℕ) (reply : Reply) (was : Option Wanted) (names now : NameTable) → ((why : Why) → reply ≡ Null why → block_at now name ≡ block_at names name) →
    IfAnswered reply (FitsName (chunk_size_of size) name now) → ((b : Block) → block_at names name ≡ Some b → IsFit was b) →
    (b : Block) → block_at now name ≡ Some b → IsFit (wanted_anew size reply was) b
resized_fit name size (Null why) was names now stays made fit b is = fit b (sym (stays why refl) ∙ is)
resized_fit name size (Got addr chunk from) was names now stays made fit b is = bytes_enough size b (made b is)
resized_fit name size (Kept addr chunk from) was names now stays made fit b is = bytes_enough size b (made b is)
resized_fit name size (Freed to) was names now stays made fit b is = bytes_enough size b (made b is)
resized_fit name size NotYours was names now stays made fit b is = bytes_enough size b (made b is)
resized_fit name size Posted was names now stays made fit b is = bytes_enough size b (made b is)
resized_fit name size (Taken addr chunk) was names now stays made fit b is = bytes_enough size b (made b is)
resized_fit name size (Missed seen) was names now stays made fit b is = bytes_enough size b (made b is)
resized_fit name size Ended was names now stays made fit b is = bytes_enough size b (made b is)

pub realloc_leaves : (line : Line) (reply : Reply) (name size : ℕ) (names now : NameTable) (trays left : List Tray) → line.call ≡ Realloc name size →
    ResizesName name size reply names now → left ≡ trays → LeavesBlocks line reply names now trays left
realloc_leaves line reply name size names now trays left call resizes same =
    blocks_left line reply names now trays left
    (λ n was before not_held.
    let h : (not (size == 0 && name == n) && was) ≡ false = ap (held_after n was) (sym call) ∙ not_held in
    elim (and_false (size == 0 && name == n) was h) [
      | inl both ↦
          let parts : ((size == 0) ≡ true) × ((name == n) ≡ true) = both_true (size == 0) (name == n) both in
          let none : size ≡ 0 = grind (arith, nat_tests) in
          let e : n ≡ name = grind (arith, nat_tests) in
          ap (block_at now) e ∙ resizes.gone none
      | inr free ↦
          elim (eqb_tells name n) [
            | inl equal ↦ ap (block_at now) (sym equal.1) ∙ resizes.none (ap (block_at names) equal.1 ∙ before free)
            | inr other ↦ resizes.others n (λ e. other.1 (sym e)) ∙ before free
          ]
    ])
    (λ n none e. ap (λ ts. tray_at ts n) same ∙ e)
    (λ w fits n b is.
    let was : Option Wanted = w.named line.thread n in
    subst (λ (c : Call). IsFit (named_next w n c reply was) b) (sym call)
    (elim (eqb_tells name n) [
      | inl equal ↦
          subst (λ (v : Bool). IsFit (cond v (wanted_anew size reply was) was) b) (sym equal.0)
          (resized_fit name size reply was names now resizes.stays resizes.made (λ c at. fits.named n c (ap (block_at names) (sym equal.1) ∙ at))
          b (ap (block_at now) equal.1 ∙ is))
      | inr other ↦
          subst (λ (v : Bool). IsFit (cond v (wanted_anew size reply was) was) b) (sym other.0)
          (fits.named n b (sym (resizes.others n (λ e. other.1 (sym e))) ∙ is))
    ]))
    (λ w fits n b is.
    subst (λ (c : Call). IsFit (posted_next w line.thread n c reply) b) (sym call) (fits.posted n b (sym (ap (λ ts. tray_at ts n) same) ∙ is)))

-- a name that holds nothing then
emptied_held : (name n : ℕ) (was : Bool) (names now : NameTable) → EmptiesName name names now → (was ≡ false → block_at names n ≡ None) → (not (name == n) && was) ≡ false →
    block_at now n ≡ None
emptied_held name n was names now empties before h =
    elim (and_false (name == n) was h) [
      | inl same ↦ let e : n ≡ name = grind (arith, nat_tests) in ap (block_at now) e ∙ empties.gone
      | inr free ↦
          elim (eqb_tells name n) [
            | inl equal ↦ ap (block_at now) (sym equal.1) ∙ empties.gone
            | inr other ↦ empties.others n (λ e. other.1 (sym e)) ∙ before free
          ]
    ]

-- a block that has a name then had it before
emptied_named : (name n : ℕ) (names now : NameTable) (b : Block) → EmptiesName name names now → block_at now n ≡ Some b → block_at names n ≡ Some b
emptied_named name n names now b empties is =
    elim (eqb_tells name n) [
      | inl equal ↦ let no : None ≡ Some b = sym (ap (block_at now) (sym equal.1) ∙ empties.gone) ∙ is in absurd cc
      | inr other ↦ sym (empties.others n (λ e. other.1 (sym e))) ∙ is
    ]

pub free_leaves : (line : Line) (reply : Reply) (name : ℕ) (names now : NameTable) (trays left : List Tray) → line.call ≡ Free name →
    EmptiesName name names now → left ≡ trays → LeavesBlocks line reply names now trays left
free_leaves line reply name names now trays left call empties same =
    blocks_left line reply names now trays left
    (λ n was before not_held. emptied_held name n was names now empties before (ap (held_after n was) (sym call) ∙ not_held))
    (λ n none e. ap (λ ts. tray_at ts n) same ∙ e)
    (λ w fits n b is.
    subst (λ (c : Call). IsFit (named_next w n c reply (w.named line.thread n)) b) (sym call) (fits.named n b (emptied_named name n names now b empties is)))
    (λ w fits n b is.
    subst (λ (c : Call). IsFit (posted_next w line.thread n c reply) b) (sym call) (fits.posted n b (sym (ap (λ ts. tray_at ts n) same) ∙ is)))

pub exit_leaves : (line : Line) (reply : Reply) (names now : NameTable) (trays left : List Tray) → line.call ≡ Exit → now ≡ names → left ≡ trays →
    LeavesBlocks line reply names now trays left
exit_leaves line reply names now trays left call stay same =
    blocks_left line reply names now trays left
    (λ n was before not_held. ap (λ names. block_at names n) stay ∙ before (ap (held_after n was) (sym call) ∙ not_held))
    (λ n none e. ap (λ ts. tray_at ts n) same ∙ e)
    (λ w fits n b is.
    subst (λ (c : Call). IsFit (named_next w n c reply (w.named line.thread n)) b) (sym call) (fits.named n b (sym (ap (λ names. block_at names n) stay) ∙ is)))
    (λ w fits n b is.
    subst (λ (c : Call). IsFit (posted_next w line.thread n c reply) b) (sym call) (fits.posted n b (sym (ap (λ ts. tray_at ts n) same) ∙ is)))

-- ---- trays

-- the block of the tray to which was posted
posted_fit : (reply : Reply) (named was : Option Wanted) (b : Block) → reply ≡ Posted → IsFit named b → IsFit (wanted_posted reply named was) b
posted_fit reply named was b is fit = subst (λ (r : Reply). IsFit (wanted_posted r named was) b) (sym is) fit

pub post_leaves : (line : Line) (reply : Reply) (name tray : ℕ) (names now : NameTable) (trays left : List Tray) → line.call ≡ Post name tray →
    PostsName name tray reply names now trays left → LeavesBlocks line reply names now trays left
post_leaves line reply name tray names now trays left call posts =
    blocks_left line reply names now trays left
    (λ n was before not_held. emptied_held name n was names now posts.empties before (ap (held_after n was) (sym call) ∙ not_held))
    (λ n none e.
    let h : (tray == n) ≡ false = ap (is_post n) (sym call) ∙ none in
    let other : n ≡ tray → ⊥ = grind (arith, nat_tests) in
    posts.others n other ∙ e)
    (λ w fits n b is.
    subst (λ (c : Call). IsFit (named_next w n c reply (w.named line.thread n)) b) (sym call) (fits.named n b (emptied_named name n names now b posts.empties is)))
    (λ w fits n b is.
    let was : Option Wanted = w.posted n in
    let named : Option Wanted = w.named line.thread name in
    subst (λ (c : Call). IsFit (posted_next w line.thread n c reply) b) (sym call)
    (elim (eqb_tells tray n) [
      | inl equal ↦
          let p = posts.posted b (ap (tray_at left) equal.1 ∙ is) in
          subst (λ (v : Bool). IsFit (cond v (wanted_posted reply named was) was) b) (sym equal.0) (posted_fit reply named was b p.0 (fits.named name b p.1))
      | inr other ↦
          subst (λ (v : Bool). IsFit (cond v (wanted_posted reply named was) was) b) (sym other.0)
          (fits.posted n b (sym (posts.others n (λ e. other.1 (sym e))) ∙ is))
    ]))

-- the block that came from the tray
taken_fit : (reply : Reply) (posted was : Option Wanted) (addr size : ℕ) (b : Block) → reply ≡ Taken addr size → IsFit posted b → IsFit (wanted_taken reply posted was) b
taken_fit reply posted was addr size b is fit = subst (λ (r : Reply). IsFit (wanted_taken r posted was) b) (sym is) fit

pub take_leaves : (line : Line) (reply : Reply) (name tray : ℕ) (names now : NameTable) (trays left : List Tray) → line.call ≡ Take name tray →
    TakesName name tray reply names now trays left → LeavesBlocks line reply names now trays left
take_leaves line reply name tray names now trays left call takes =
    blocks_left line reply names now trays left
    (λ n was before not_held.
    let parts : ((name == n) ≡ false) × (was ≡ false) = or_false (name == n) was (ap (held_after n was) (sym call) ∙ not_held) in
    let other : n ≡ name → ⊥ = grind (arith, nat_tests) in
    takes.others n other ∙ before parts.1)
    (λ n none e. takes.empty n e)
    (λ w fits n b is.
    let was : Option Wanted = w.named line.thread n in
    subst (λ (c : Call). IsFit (named_next w n c reply was) b) (sym call)
    (elim (eqb_tells name n) [
      | inl equal ↦
          let p = takes.taken b (ap (block_at now) equal.1 ∙ is) in
          subst (λ (v : Bool). IsFit (cond v (wanted_taken reply (w.posted tray) was) was) b) (sym equal.0)
          (taken_fit reply (w.posted tray) was p.1.0 p.1.1 b p.1.2 (fits.posted tray b p.0))
      | inr other ↦
          subst (λ (v : Bool). IsFit (cond v (wanted_taken reply (w.posted tray) was) was) b) (sym other.0)
          (fits.named n b (sym (takes.others n (λ e. other.1 (sym e))) ∙ is))
    ]))
    (λ w fits n b is. subst (λ (c : Call). IsFit (posted_next w line.thread n c reply) b) (sym call) (fits.posted n b (takes.stays n b is)))
