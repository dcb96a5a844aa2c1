use Rattle.malloc_calls.specs.Threads.{names_of}
use Rattle.trace_text.specs.declared.trace.Call.TheVariants.{Malloc, Calloc, Realloc, Align, Free, Post, Take, Exit}
use Rattle.trace_replay.proofs.Called.{called}
use Rattle.trace_replay.proofs.HeldNames.{malloc_leaves, calloc_leaves, memalign_leaves, realloc_leaves, free_leaves, post_leaves, take_leaves, exit_leaves}
use Rattle.trace_replay.proofs.Results.{if_ok, if_ok₂}
use Rattle.trace_replay.proofs.calling.call.Goals as goal

pub returns-in-Malloc-clause-done : goal.returns-in-Malloc-clause-done
returns-in-Malloc-clause-done g c =
    called g.K.Kernel.port c.args.t.now c.args.line.now (Malloc c.in-Malloc.name c.in-Malloc.size) c.args.thread.now c.malloc.new.thread c.args.serial.now c.malloc.new.serial c.malloc.result c.in-Malloc.is c.requires.thread
    (c.malloc.ensures.does) c.malloc.ensures.keeps
    (if_ok₂ _ _ _ c.malloc.result
    (λ reply makes same. malloc_leaves c.args.line.now reply c.in-Malloc.name c.in-Malloc.size (names_of c.args.thread.now) (names_of c.malloc.new.thread) c.args.serial.now.trays c.malloc.new.serial.trays c.in-Malloc.is makes same)
    c.malloc.ensures.names c.malloc.ensures.trays)

pub returns-in-Calloc-clause-done : goal.returns-in-Calloc-clause-done
returns-in-Calloc-clause-done g c =
    called g.K.Kernel.port c.args.t.now c.args.line.now (Calloc c.in-Calloc.name c.in-Calloc.n c.in-Calloc.size) c.args.thread.now c.calloc.new.thread c.args.serial.now c.calloc.new.serial c.calloc.result c.in-Calloc.is c.requires.thread
    (c.calloc.ensures.does) c.calloc.ensures.keeps
    (if_ok₂ _ _ _ c.calloc.result
    (λ reply makes same. calloc_leaves c.args.line.now reply c.in-Calloc.name c.in-Calloc.n c.in-Calloc.size (names_of c.args.thread.now) (names_of c.calloc.new.thread) c.args.serial.now.trays c.calloc.new.serial.trays c.in-Calloc.is makes same)
    c.calloc.ensures.names c.calloc.ensures.trays)

pub returns-in-Align-clause-done : goal.returns-in-Align-clause-done
returns-in-Align-clause-done g c =
    called g.K.Kernel.port c.args.t.now c.args.line.now (Align c.in-Align.name c.in-Align.align c.in-Align.size) c.args.thread.now c.posix_memalign.new.thread c.args.serial.now c.posix_memalign.new.serial c.posix_memalign.result c.in-Align.is c.requires.thread
    (c.posix_memalign.ensures.does) c.posix_memalign.ensures.keeps
    (if_ok₂ _ _ _ c.posix_memalign.result
    (λ reply makes same. memalign_leaves c.args.line.now reply c.in-Align.name c.in-Align.align c.in-Align.size (names_of c.args.thread.now) (names_of c.posix_memalign.new.thread) c.args.serial.now.trays c.posix_memalign.new.serial.trays c.in-Align.is makes same)
    c.posix_memalign.ensures.names c.posix_memalign.ensures.trays)

pub returns-in-Realloc-clause-done : goal.returns-in-Realloc-clause-done
returns-in-Realloc-clause-done g c =
    called g.K.Kernel.port c.args.t.now c.args.line.now (Realloc c.in-Realloc.name c.in-Realloc.size) c.args.thread.now c.realloc.new.thread c.args.serial.now c.realloc.new.serial c.realloc.result c.in-Realloc.is c.requires.thread
    (c.realloc.ensures.does) c.realloc.ensures.keeps
    (if_ok₂ _ _ _ c.realloc.result
    (λ reply makes same. realloc_leaves c.args.line.now reply c.in-Realloc.name c.in-Realloc.size (names_of c.args.thread.now) (names_of c.realloc.new.thread) c.args.serial.now.trays c.realloc.new.serial.trays c.in-Realloc.is makes same)
    c.realloc.ensures.names c.realloc.ensures.trays)

pub returns-in-Free-clause-done : goal.returns-in-Free-clause-done
returns-in-Free-clause-done g c =
    called g.K.Kernel.port c.args.t.now c.args.line.now (Free c.in-Free.name) c.args.thread.now c.free.new.thread c.args.serial.now c.free.new.serial c.free.result c.in-Free.is c.requires.thread
    (c.free.ensures.does) c.free.ensures.keeps
    (if_ok₂ _ _ _ c.free.result
    (λ reply makes same. free_leaves c.args.line.now reply c.in-Free.name (names_of c.args.thread.now) (names_of c.free.new.thread) c.args.serial.now.trays c.free.new.serial.trays c.in-Free.is makes same)
    c.free.ensures.names c.free.ensures.trays)

pub returns-in-Post-clause-done : goal.returns-in-Post-clause-done
returns-in-Post-clause-done g c =
    called g.K.Kernel.port c.args.t.now c.args.line.now (Post c.in-Post.name c.in-Post.tray) c.args.thread.now c.post.new.thread c.args.serial.now c.post.new.serial c.post.result c.in-Post.is c.requires.thread
    (c.post.ensures.does c.args.line.now.number) c.post.ensures.keeps
    (if_ok _ _ c.post.result
    (λ reply made. post_leaves c.args.line.now reply c.in-Post.name c.in-Post.tray (names_of c.args.thread.now) (names_of c.post.new.thread) c.args.serial.now.trays c.post.new.serial.trays c.in-Post.is made)
    c.post.ensures.names)

pub returns-in-Take-clause-done : goal.returns-in-Take-clause-done
returns-in-Take-clause-done g c =
    called g.K.Kernel.port c.args.t.now c.args.line.now (Take c.in-Take.name c.in-Take.tray) c.args.thread.now c.take.new.thread c.args.serial.now c.take.new.serial c.take.result c.in-Take.is c.requires.thread
    (c.take.ensures.does c.args.line.now.number) c.take.ensures.keeps
    (if_ok _ _ c.take.result
    (λ reply made. take_leaves c.args.line.now reply c.in-Take.name c.in-Take.tray (names_of c.args.thread.now) (names_of c.take.new.thread) c.args.serial.now.trays c.take.new.serial.trays c.in-Take.is made)
    c.take.ensures.names)

pub returns-in-Exit-clause-done : goal.returns-in-Exit-clause-done
returns-in-Exit-clause-done g c =
    called g.K.Kernel.port c.args.t.now c.args.line.now Exit c.args.thread.now c.exit.new.thread c.args.serial.now c.exit.new.serial c.exit.result c.in-Exit.is c.requires.thread
    (c.exit.ensures.does) c.exit.ensures.keeps
    (if_ok _ _ c.exit.result
    (λ reply same. exit_leaves c.args.line.now reply (names_of c.args.thread.now) (names_of c.exit.new.thread) c.args.serial.now.trays c.exit.new.serial.trays c.in-Exit.is c.exit.ensures.names same)
    c.exit.ensures.trays)
