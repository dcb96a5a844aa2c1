use Rattle.std.proofs.Common.{◌≡◌, ◌++◌, [], ◌∷◌, take, map, length, sym, ap, ◌∙◌, append-nil, append_assoc, arith}
use Rattle.std.proofs.Math.Seq.{take-length}
use Rattle.std.proofs.lemmas.List.{length-append}
use Rattle.arena_core.specs.Kept.{told_of, asks_in, asks_of}
use Rattle.arena_core.proofs.KeptLaws.{told-next, asks-next, few-asks}
use Rattle.arena_core.proofs.kept.keep_all.Goals as goal

pub loop-answer-init : goal.loop-answer-init
loop-answer-init c = record {
  told = sym (append-nil _);
  asks = sym (append-nil _);
  told_room = omega (arith, c.requires.told);
  asks_room = omega (arith, c.requires.asks);
}

pub keep-requires-clause-told : goal.keep-requires-clause-told
keep-requires-clause-told c = omega (arith, c.loop-answer.invariant.told_room, c.loop-answer-test.true)

pub keep-requires-clause-asks : goal.keep-requires-clause-asks
keep-requires-clause-asks c = omega (arith, c.loop-answer.invariant.asks_room, c.loop-answer-test.true)

pub loop-answer-preserved : goal.loop-answer-preserved
loop-answer-preserved c =
    let i = c.loop-answer.answer-index in
    let ss = c.args.said.now in
    let s = c.answer-item.result in
    record {
      told = rw (c.keep.ensures.told, c.loop-answer.invariant.told, told-next ss i s c.loop-answer-test.true (sym c.answer-item.is)) (append_assoc c.args.told.now.items (map told_of (take i ss)) (told_of s ∷ []));
      asks = rw (c.keep.ensures.asks, c.loop-answer.invariant.asks, asks-next ss i s c.loop-answer-test.true (sym c.answer-item.is)) (append_assoc c.args.asks.now.items (asks_in (take i ss)) (asks_of s));
      told_room = omega (arith, c.loop-answer.invariant.told_room, c.keep.ensures.told_room, ap length c.keep.ensures.told, length-append c.loop-answer.told.items (told_of s ∷ []), c.keep.new.told.ok.0, c.loop-answer.told.ok.0);
      asks_room = omega (arith, c.loop-answer.invariant.asks_room, c.keep.ensures.asks_room, ap length c.keep.ensures.asks, length-append c.loop-answer.asks.items (asks_of s), few-asks s, c.keep.new.asks.ok.0, c.loop-answer.asks.ok.0);
    }

pub returns-clause-told : goal.returns-clause-told
returns-clause-told c =
    let done : c.loop-answer.answer-index ≡ length c.args.said.now = omega (arith, c.loop-answer-test.false, c.loop-answer.auto.answer-index-end) in
    c.loop-answer.invariant.told ∙ ap (λ ss. c.args.told.now.items ++ map told_of ss) (ap (λ n. take n c.args.said.now) done ∙ take-length c.args.said.now)

pub returns-clause-asks : goal.returns-clause-asks
returns-clause-asks c =
    let done : c.loop-answer.answer-index ≡ length c.args.said.now = omega (arith, c.loop-answer-test.false, c.loop-answer.auto.answer-index-end) in
    c.loop-answer.invariant.asks ∙ ap (λ ss. c.args.asks.now.items ++ asks_in ss) (ap (λ n. take n c.args.said.now) done ∙ take-length c.args.said.now)
