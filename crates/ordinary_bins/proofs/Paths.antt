-- A path of links when a node is skipped, or spliced in.
use Rattle.std.proofs.Common.{◌≡◌, ℕ, ◌≤◌, ◌≢◌, List, [], ◌∷◌, cond, eqb, sym, ap, ◌∙◌, subst, inl, inr, arith, refl}
use Rattle.std.proofs.lemmas.Bool.Decides.{eqb_tells}
use Rattle.ordinary_bins.proofs.ListLaws.{times_in-cons, in_here, in_more}
use Rattle.ordinary_bins.specs.Lists.{times_in, without, put_behind}
use Rattle.ordinary_bins.specs.Rings.{Meet, IsPath, Skips, Splices}

-- the first step of a path
pub first_step : (f b : ℕ → ℕ) (s e : ℕ) (xs : List ℕ) → IsPath f b s xs e → Meet f b s (f s)
first_step f b s e [] m = record { ahead = refl; back = subst (λ n. b n ≡ s) (sym m.ahead) m.back }
first_step f b s e (x ∷ xs) p = record { ahead = refl; back = subst (λ n. b n ≡ s) (sym p.0.ahead) p.0.back }

-- A node amid a path that leads over other nodes too, and what is true of its neighbours.
pub record Amid (f b : ℕ → ℕ) (P : ℕ → Type 0) (n : ℕ) : Type 0 where
  pub before : Meet f b (b n) n
  pub behind : Meet f b n (f n)
  pub alone : b n ≢ n
  pub ahead_is : P (f n)
  pub back_is : P (b n)

-- nor is it behind itself
pub alone_ahead : {f b : ℕ → ℕ} {P : ℕ → Type 0} {n : ℕ} → Amid f b P n → f n ≢ n
alone_ahead {f} {b} l = λ same. l.alone (sym (ap b same) ∙ l.behind.back)

-- what is true of the nodes of a path
pub record Along (P : ℕ → Type 0) (s e : ℕ) (xs : List ℕ) : Type 0 where
  pub start : P s
  pub end : P e
  pub nodes : (n : ℕ) → 1 ≤ times_in n xs → P n

along_more : {P : ℕ → Type 0} {s e x : ℕ} {xs : List ℕ} → Along P s e (x ∷ xs) → Along P x e xs
along_more {P} {s} {e} {x} {xs} a = record {
  start = a.nodes x (omega (arith, in_here x x xs refl));
  end = a.end;
  nodes = λ n h. a.nodes n (omega (arith, in_more n x xs));
}

-- where a path leads first
pub first_is : (f b : ℕ → ℕ) {P : ℕ → Type 0} {s e : ℕ} (xs : List ℕ) → IsPath f b s xs e → Along P s e xs → P (f s)
first_is f b {P} [] m a = subst P (sym m.ahead) a.end
first_is f b {P} (x ∷ xs) p a = subst P (sym p.0.ahead) (a.nodes x (omega (arith, in_here x x xs refl)))

pub amid_path : (f b : ℕ → ℕ) {P : ℕ → Type 0} (n : ℕ) {s e : ℕ} (xs : List ℕ) → s ≢ n → IsPath f b s xs e → Along P s e xs → 1 ≤ times_in n xs → Amid f b P n
amid_path f b n [] ne p a h = absurd (omega (arith, h))
amid_path f b {P} n {s} {e} (x ∷ xs) ne p a h = elim (eqb_tells n x) [
  | inl t ↦
      let back : b n ≡ s = ap b t.1 ∙ p.0.back in
      let on : IsPath f b n xs e = subst (λ m. IsPath f b m xs e) (sym t.1) p.1 in
      record {
        before = record { ahead = ap f back ∙ (p.0.ahead ∙ sym t.1); back = refl };
        behind = first_step f b n e xs on;
        alone = λ same. ne (sym back ∙ same);
        ahead_is = subst (λ m. P (f m)) (sym t.1) (first_is f b xs p.1 (along_more a));
        back_is = subst P (sym back) a.start;
      }
  | inr t ↦
      let later : 1 ≤ times_in n xs = omega (arith, h, times_in-cons n x xs, ap (λ v. cond {A = ℕ} v 1 0) t.0) in
      amid_path f b n xs (λ q. t.1 (sym q)) p.1 (along_more a) later
]

-- Skipping.

-- two nodes that meet still do when a third is skipped
meet_skipped : {f b f' b' : ℕ → ℕ} {P : ℕ → Type 0} {at s x : ℕ} → Skips f b f' b' at → Amid f b P at → s ≢ at → x ≢ at → Meet f b s x → Meet f' b' s x
meet_skipped {f} {b} k l ns nx m = record {
  ahead = k.ahead_else _ (λ q. nx (sym m.ahead ∙ (ap f q ∙ l.before.ahead))) ns ∙ m.ahead;
  back = k.back_else _ (λ q. ns (sym m.back ∙ (ap b q ∙ l.behind.back))) nx ∙ m.back;
}

-- what the path is without it, from a node before, and from the skipped one
skipped : {f b f' b' : ℕ → ℕ} {P : ℕ → Type 0} {at e : ℕ} → Skips f b f' b' at → Amid f b P at → e ≢ at → (xs : List ℕ) → ((s : ℕ) → s ≢ at → IsPath f b s xs e → IsPath f' b' s (without at xs) e) × (IsPath f b at xs e → IsPath f' b' (b at) (without at xs) e)
skipped {f} {b} {f'} {b'} {P} {at} {e} k l ne [] =
    (λ s ns m. meet_skipped k l ns ne m, λ m. record { ahead = k.ahead ∙ m.ahead; back = subst (λ n. b' n ≡ b at) m.ahead k.back })
skipped {f} {b} {f'} {b'} {P} {at} {e} k l ne (x ∷ xs) =
    let later = skipped k l ne xs in
    elim (eqb_tells at x) [
      | inl t ↦ rw t.0 (
        λ s ns p. subst (λ n. IsPath f' b' n (without at xs) e) (ap b t.1 ∙ p.0.back) (later.1 (subst (λ n. IsPath f b n xs e) (sym t.1) p.1)),
        λ p. absurd (l.alone (ap b t.1 ∙ p.0.back)),
      )
      | inr t ↦
          let nx : x ≢ at = λ q. t.1 (sym q) in
          rw t.0 (
            λ s ns p. (meet_skipped k l ns nx p.0, later.0 x nx p.1),
            λ p. (record { ahead = k.ahead ∙ p.0.ahead; back = subst (λ n. b' n ≡ b at) p.0.ahead k.back }, later.0 x nx p.1),
          )
    ]

pub path_skipped : {f b f' b' : ℕ → ℕ} {P : ℕ → Type 0} {at s e : ℕ} → Skips f b f' b' at → Amid f b P at → s ≢ at → e ≢ at → (xs : List ℕ) → IsPath f b s xs e → IsPath f' b' s (without at xs) e
path_skipped k l ns ne xs p = (skipped k l ne xs).0 _ ns p

-- Splicing.

-- the list from a node on, with a node behind another one
abbrev pub behind_from : ℕ → ℕ → ℕ → List ℕ → List ℕ
behind_from after at s xs = cond (eqb after s) (at ∷ put_behind after at xs) (put_behind after at xs)

meet_spliced : {f b f' b' : ℕ → ℕ} {after at s x : ℕ} → Splices f b f' b' after at → b (f after) ≡ after → s ≢ at → x ≢ at → s ≢ after → Meet f b s x → Meet f' b' s x
meet_spliced {f} {b} k back ns nx na m = record {
  ahead = k.ahead_else _ na ns ∙ m.ahead;
  back = k.back_else _ (λ q. na (sym m.back ∙ (ap b q ∙ back))) nx ∙ m.back;
}

-- the two steps that come in the place of one
meet_new : {f b f' b' : ℕ → ℕ} {after at s x : ℕ} → Splices f b f' b' after at → after ≡ s → Meet f b s x → Meet f' b' s at × Meet f' b' at x
meet_new {f} {b} {f'} {b'} {after} {at} k e m =
    let on = ap f e ∙ m.ahead in (
      record { ahead = subst (λ n. f' n ≡ at) e k.ahead; back = k.back_on ∙ e },
      record { ahead = k.ahead_on ∙ on; back = subst (λ n. b' n ≡ at) on k.back },
    )

pub path_spliced : {f b f' b' : ℕ → ℕ} {after at s e : ℕ} → Splices f b f' b' after at → b (f after) ≡ after → (xs : List ℕ) → Along (λ n. n ≢ at) s e xs → IsPath f b s xs e → IsPath f' b' s (behind_from after at s xs) e
path_spliced {f} {b} {f'} {b'} {after} {at} {s} {e} k back [] a m = elim (eqb_tells after s) [
  | inl t ↦ rw t.0 (meet_new k t.1 m)
  | inr t ↦ rw t.0 (meet_spliced k back a.start a.end (λ q. t.1 (sym q)) m)
]
path_spliced {f} {b} {f'} {b'} {after} {at} {s} {e} k back (x ∷ xs) a p =
    let later = path_spliced k back xs (along_more a) p.1 in
    elim (eqb_tells after s) [
      | inl t ↦ let new = meet_new k t.1 p.0 in rw t.0 (new.0, (new.1, later))
      | inr t ↦ rw t.0 (meet_spliced k back a.start (along_more a).start (λ q. t.1 (sym q)) p.0, later)
    ]
