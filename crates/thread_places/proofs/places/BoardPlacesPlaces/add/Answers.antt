use Rattle.std.proofs.Common.{rules, refl, sym, subst, ◌≡◌, ◌∙◌, ◌<◌, ℕ}
use Rattle.std.specs.Prelude.{option_map}
use Rattle.arena_holds.specs.Places.{kept_of}
use Rattle.board_types.specs.Flat.{FlatView}
use Rattle.thread_places.specs.BoardWays.{state_at, StoredOf}
use Rattle.thread_places.specs.BoardLaws.{same_some, within_here, owed_below, returns_new, added_by, state_same}
use Rattle.thread_places.proofs.places.BoardPlacesPlaces.add.Goals as goal

pub lock_record-hold-requires : goal.lock_record-hold-requires
lock_record-hold-requires g c =
    let o = c.requires.new.owed in
    let num : c.number-a.result ≡ (g.B.Ground.Moves.plain c.args.arena.ground.value).number = search rules in
    let within = within_here g.B.BoardPass.view (λ p. p.pass) (λ p. p.polls) (λ p. p.who) g.met.B.BoardPass.within c.args.self.now o.view o.at in
    record { here = record { view = o.view; at = o.at; is = subst (λ (n : ℕ). n < o.view.tunables.records) (sym num) (owed_below o.view _ within o.is) } }

pub returns : goal.returns
returns g c =
    let view = g.B.BoardPass.view in
    let seen = g.B.BoardPass.seen in
    let fast = g.B.Held.FastPort.fast in
    let words = g.B.BoardPass.words in
    let self = c.args.self.now in
    let k = kept_of g.B.Ground.Moves.plain c.args.arena in
    let num : c.number-a.result ≡ k.arena.number = search rules in
    let lent = c.lock_record-hold.ensures.lent in
    let hold = c.lock_record-hold.result.0 in
    let w : FlatView = view c.unlock.result in
    let st = c.attach_new.ensures.stored in
    let same : st.view ≡ w = same_some st.view w st.at refl in
    let x : FlatView = st.is.view in
    let stored : StoredOf w c.number-a.result x = subst (λ (y : FlatView). StoredOf y c.number-a.result x) same st.is.is in
    let back = returns_new (λ p. state_at (option_map view p.pass) p.polls p.who) seen fast words self k lent.view c.number-a.result (seen hold) (fast.stock hold) lent.at num c.requires.new lent.locks in
    let u = c.unlock.ensures.unlocked self.who k.journal back in
    added_by (λ p. state_at (option_map view p.pass) p.polls p.who) seen fast words self c.attach_new.new.self c.args.thread k lent.view w x c.number-a.result (seen hold) (fast.stock hold)
    lent.at (state_same (option_map view c.attach_new.new.self.pass) x (state_at (option_map view self.pass) self.polls self.who) c.attach_new.new.self.polls c.attach_new.new.self.who st.is.at
    (c.attach_new.ensures.rest.0 ∙ c.lock_record-hold.ensures.rest.0) (c.attach_new.ensures.rest.1 ∙ c.lock_record-hold.ensures.rest.1)) num c.requires.new lent.locks u stored
