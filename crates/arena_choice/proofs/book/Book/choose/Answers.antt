use Rattle.arena_choice.proofs.BookLaws.{choice_usable}
use Rattle.arena_choice.proofs.book.Book.choose.Goals as goal

pub returns-clause-usable : goal.returns-clause-usable
returns-clause-usable c =
    rw (c.choose_by_rules.ensures.book, c.choose_by_rules.ensures.choice) (choice_usable c.args.self.now c.args.thread c.args.fresh c.args.t.now c.laws.ensures)
