use Rattle.std.proofs.Common.{◌≡◌, ℕ, ◌<◌, ◌≤◌, Bool, cond, eqb, List, ◌∷◌, length, refl, ap, ◌∙◌, arith}
use Rattle.std.proofs.lemmas.Bool.{eq-eqb}
use Rattle.std.proofs.lemmas.List.{length-set}
use Rattle.ordinary_bins.specs.Lists.{times_listed, list_at, put_front, empty_lists}
use Rattle.ordinary_bins.proofs.ListLaws.{fronted, length-empty_lists}
use Rattle.chunk_tests.proofs.link_tests.links_from_part_to_part.Goals as goal

itself : (n : ℕ) → cond {A = ℕ} (eqb n n) 1 0 ≡ 1
itself n = ap (λ (b : Bool). cond {A = ℕ} b 1 0) (eq-eqb n n refl)

-- of two chunks that were put in front of a bin each is listed
both_listed : (first second : ℕ) (none one two : List (List ℕ)) → none ≡ empty_lists → one ≡ put_front 1 first none → two ≡ put_front 1 second one → (1 ≤ times_listed first two) × (1 ≤ times_listed second two)
both_listed first second none one two is front again =
    let wide : 1 < length none = omega (arith, ap (λ (ls : List (List ℕ)). length ls) is, length-empty_lists) in
    let same : 1 < length one = omega (arith, wide, ap (λ (ls : List (List ℕ)). length ls) front, length-set none 1 (first ∷ list_at 1 none)) in (
      omega (arith, ap (times_listed first) again ∙ fronted first 1 second one same, ap (times_listed first) front ∙ fronted first 1 first none wide, itself first),
      omega (arith, ap (times_listed second) again ∙ fronted second 1 second one same, itself second),
    )

pub next-requires : goal.next-requires
next-requires g c =
    (both_listed 93824992251936 98956046499872 c.open-2.new.self.lists c.push_front.new.self.lists c.push_front-2.new.self.lists
    (c.open-2.ensures.lists ∙ c.open.ensures.lists ∙ c.in_ok-links.ensures.lists) c.push_front.ensures.lists c.push_front-2.ensures.lists).1

pub before-requires : goal.before-requires
before-requires g c =
    (both_listed 93824992251936 98956046499872 c.open-2.new.self.lists c.push_front.new.self.lists c.push_front-2.new.self.lists
    (c.open-2.ensures.lists ∙ c.open.ensures.lists ∙ c.in_ok-links.ensures.lists) c.push_front.ensures.lists c.push_front-2.ensures.lists).0

pub unlink-requires : goal.unlink-requires
unlink-requires g c =
    (both_listed 93824992251936 98956046499872 c.open-2.new.self.lists c.push_front.new.self.lists c.push_front-2.new.self.lists
    (c.open-2.ensures.lists ∙ c.open.ensures.lists ∙ c.in_ok-links.ensures.lists) c.push_front.ensures.lists c.push_front-2.ensures.lists).0
