use Rattle.std.proofs.Common.{refl}
use Rattle.realloc_align.proofs.Released.{rest_backed, resizes_released, resizes_stranded, rose_released}
use Rattle.realloc_align.proofs.resizing.resize_in.Goals as goal

pub close-requires-clause-backed : goal.close-requires-clause-backed
close-requires-clause-backed g c = λ k l. rest_backed _ c.args.t.now c.args.c c.args.nb _ _ c.in-Ok.reshaped c.requires.backed c.in-Ok.ensures.reshapes

pub returns-in-Ok-close-clause-resizes : goal.returns-in-Ok-close-clause-resizes
returns-in-Ok-close-clause-resizes g c = resizes_released _ c.args.t.now c.args.c c.args.nb _ _ _ c.in-Ok.reshaped c.in-Ok.ensures.reshapes c.in-Ok-close.ensures.closes

pub returns-in-Ok-close-clause-refused : goal.returns-in-Ok-close-clause-refused
returns-in-Ok-close-clause-refused g c = λ is. rose_released _ c.args.t.now _ _ _ c.in-Ok.reshaped.rest c.in-Ok-close.ensures.closes (c.in-Ok.ensures.refused is)

pub returns-in-Err-clause-resizes : goal.returns-in-Err-clause-resizes
returns-in-Err-clause-resizes g c = resizes_stranded _ c.args.t.now c.args.c c.args.nb _ _ _ c.in-Ok.reshaped c.in-Err.field-0 _ refl c.in-Ok.ensures.reshapes c.in-Err.ensures.closes
