-- Laws of marks: what stays marked, and when what marked steps use is marked.
use Rattle.std.proofs.Common.{◌≡◌, ℕ, ◌+◌, ◌<◌, ◌≤◌, Bool, true, false, List, [], ◌∷◌, length}
use Rattle.std.proofs.Common.{get_or, set, replicate, refl, sym, ◌∙◌, ap, subst, inl, inr, arith}
use Rattle.std.proofs.lemmas.Bool.{cases_eq, false≢true}
use Rattle.std.proofs.lemmas.List.{length-set, get_or-set_same, get_or-set_other, length-replicate}
use Rattle.eqc_build.specs.Steps.{StepsOf, AreSteps, steps_in, uses_of, first_root, second_root}
use Rattle.eqc_build.specs.Steps.{roots_of, assumed_root}
use Rattle.eqc_build.proofs.StepLaws.{uses_before, root_first, root_second}
use Rattle.eqc_gates.specs.Entering.{is_marked, AreMarked, AreClosed, HasAssumed, HaveRoots}

-- ---- marking some steps

pub marked_none : (old : List Bool) (steps : List ℕ) → AreMarked old old steps 0
marked_none old steps = record {
  size = refl;
  kept = λ k h. h;
  there =
      λ c inside. absurd (omega arith);
  only = λ k above. refl;
}

-- one more
pub marked_more : (old now new : List Bool) (steps : List ℕ) (i s : ℕ) → AreMarked old now steps i
    → s ≡ get_or steps i 0 → s < length now → new ≡ set now s true → AreMarked old new steps (i + 1)
marked_more old now new steps i s so_far step within is = rw is (record {
  size = length-set now s true ∙ so_far.size;
  kept = λ k h. stays k (so_far.kept k h);
  there = λ c lt. elim (cases_eq c i) [
    | inl last ↦ ap (λ k. get_or (set now s true) k false) (ap (λ k. get_or steps k 0) last
        ∙ sym step) ∙ get_or-set_same now s true false within
    | inr front ↦ stays (get_or steps c 0) (so_far.there c (omega arith))
  ];
  only = λ k above.
      let below : get_or steps i 0 < k = above i (omega arith) in
      let apart : k ≡ s → ⊥ = λ e. omega (arith, below, step, e) in
      get_or-set_other now s k true false apart ∙ so_far.only k (λ c lt. above c (omega arith));
})
  where
    stays : (k : ℕ) → get_or now k false ≡ true → get_or (set now s true) k false ≡ true
    stays k h = elim (cases_eq k s) [
      | inl same ↦ ap (λ j. get_or (set now s true) j false) same
          ∙ get_or-set_same now s true false within
      | inr apart ↦ get_or-set_other now s k true false apart ∙ h
    ]

-- two, one after the other
pub marked_both : (old between new : List Bool) (s t : ℕ) → s < length old → t < length old
    → between ≡ set old s true → new ≡ set between t true → AreMarked old new (s ∷ t ∷ []) 2
marked_both old between new s t first second is are =
    let one = marked_more old old between (s ∷ t ∷ []) 0 s (marked_none old (s ∷ t ∷ [])) refl first
    is in
    marked_more old between new (s ∷ t ∷ []) 1 t one refl (omega (arith, second, one.size)) are

-- the one step of a list
pub marked_one : (old new : List Bool) (steps : List ℕ) (s : ℕ) → s ∷ [] ≡ steps → s < length old
    → new ≡ set old s true → AreMarked old new steps (length steps)
marked_one old new steps s is within are = subst (λ l. AreMarked old new l (length l)) is
    (marked_more old old new (s ∷ []) 0 s (marked_none old (s ∷ [])) refl within are)

pub marked_nothing : (old : List Bool) (steps : List ℕ) → [] ≡ steps
    → AreMarked old old steps (length steps)
marked_nothing old steps is = subst (λ l. AreMarked old old l (length l)) is (marked_none old [])

-- ---- the steps of outputs

pub record HaveRootsSoFar (g : StepsOf) (wanted marks : List Bool) (n : ℕ) : Type 0 where
  pub size : length marks ≡ steps_in g.pair
  pub roots : HaveRoots g wanted marks n

pub roots_none : (g : StepsOf) (wanted : List Bool) (n : ℕ) (b : Bool) → n ≡ steps_in g.pair
    → HaveRootsSoFar g wanted (replicate n b) 0
roots_none g wanted n b count = record {
  size = length-replicate n b ∙ count;
  roots =
      record { each = λ o inside. absurd (omega arith) };
}

pub roots_more : (g : StepsOf) (wanted old new : List Bool) (o : ℕ) (roots : List ℕ)
    → HaveRootsSoFar g wanted old o → roots ≡ roots_of g o →
    AreMarked old new (get_or roots 0 0 ∷ get_or roots 1 0 ∷ []) 2
    → HaveRootsSoFar g wanted new (o + 1)
roots_more g wanted old new o roots so_far are marked = record {
  size = marked.size ∙ so_far.size;
  roots = record {
    each = λ p inside is. elim (cases_eq p o) [
      | inl last ↦ (
        ap (λ k. get_or new k false) (ap (first_root g) last ∙ sym (ap (λ rs. get_or rs 0 0) are
            ∙ root_first g o)) ∙ marked.there 0 (omega arith),
        ap (λ k. get_or new k false) (ap (second_root g) last ∙ sym (ap (λ rs. get_or rs 1 0) are
            ∙ root_second g o)) ∙ marked.there 1 (omega arith),
      )
      | inr front ↦
          let both = so_far.roots.each p (omega arith) is in
          (marked.kept (first_root g p) both.0, marked.kept (second_root g p) both.1)
    ];
  };
}

pub roots_same : (g : StepsOf) (wanted marks : List Bool) (o : ℕ) → HaveRootsSoFar g wanted marks o
    → is_marked wanted o ≡ false → HaveRootsSoFar g wanted marks (o + 1)
roots_same g wanted marks o so_far none = record {
  size = so_far.size;
  roots = record {
    each = λ p inside is. elim (cases_eq p o) [
      | inl last ↦ absurd (false≢true (sym none ∙ (ap (is_marked wanted) (sym last) ∙ is)))
      | inr front ↦ so_far.roots.each p (omega arith) is
    ];
  };
}

-- ---- what marked steps use

-- of the steps from k on, what a marked one uses is marked
pub record AreClosedFrom (g : StepsOf) (wanted marks : List Bool) (k : ℕ) : Type 0 where
  pub size : length marks ≡ steps_in g.pair
  pub inside : k ≤ steps_in g.pair
  pub roots : HaveRoots g wanted marks (length wanted)
  pub assumed : HasAssumed g marks
  pub uses : (j c : ℕ) → k ≤ j → j < steps_in g.pair → is_marked marks j ≡ true
      → c < length (uses_of g j) → is_marked marks (get_or (uses_of g j) c 0) ≡ true

pub closed_begins : (g : StepsOf) (wanted old marks : List Bool) (o n : ℕ)
    → HaveRootsSoFar g wanted old o →
    AreMarked old marks (assumed_root g) (length (assumed_root g)) → length wanted ≤ o
    → n ≡ steps_in g.pair
    → AreClosedFrom g wanted marks n
closed_begins g wanted old marks o n so_far marked whole count = record {
  size = marked.size ∙ so_far.size;
  inside = omega (arith, count);
  roots = record {
    each = λ p inside is.
        let both = so_far.roots.each p (omega arith) is in
        (marked.kept (first_root g p) both.0, marked.kept (second_root g p) both.1);
  };
  assumed = record { each = λ k inside. marked.there k inside };
  uses = λ j c above inside. absurd (omega arith);
}

pub closed_more : (g : StepsOf) (wanted old new : List Bool) (k : ℕ) → AreSteps g
    → k < steps_in g.pair → AreClosedFrom g wanted old (k + 1) →
    AreMarked old new (uses_of g k) (length (uses_of g k)) → AreClosedFrom g wanted new k
closed_more g wanted old new k steps within so_far marked = record {
  size = marked.size ∙ so_far.size;
  inside = omega (arith, within);
  roots = record {
    each = λ p inside is. (let both = so_far.roots.each p inside is in
        (marked.kept (first_root g p) both.0, marked.kept (second_root g p) both.1));
  };
  assumed = record {
    each = λ j inside. marked.kept (get_or (assumed_root g) j 0)
        (so_far.assumed.each j inside);
  };
  uses = λ j c above inside is lt. elim (cases_eq j k) [
    | inl here ↦ subst (λ i. c < length (uses_of g i) → is_marked new (get_or (uses_of g i) c 0)
        ≡ true) (sym here) (λ less. marked.there c less) lt
    | inr apart ↦ marked.kept (get_or (uses_of g j) c 0) (so_far.uses j c (omega arith) inside
        (sym (marked.only j (λ d less. later j (omega arith) d less)) ∙ is) lt)
  ];
}
  where
    later : (j : ℕ) → k < j → (d : ℕ) → d < length (uses_of g k) → get_or (uses_of g k) d 0 < j
    later j above d less = omega (arith, uses_before g k d steps within less)

pub closed_same : (g : StepsOf) (wanted marks : List Bool) (k : ℕ)
    → AreClosedFrom g wanted marks (k + 1) → is_marked marks k ≡ false
    → AreClosedFrom g wanted marks k
closed_same g wanted marks k so_far none = record {
  size = so_far.size;
  inside = omega (arith, so_far.inside);
  roots = so_far.roots;
  assumed = so_far.assumed;
  uses = λ j c above inside is lt. elim (cases_eq j k) [
    | inl here ↦ absurd (false≢true (sym none ∙ (ap (is_marked marks) (sym here) ∙ is)))
    | inr apart ↦ so_far.uses j c (omega arith) inside is lt
  ];
}

pub closed_all : (g : StepsOf) (wanted marks : List Bool) → AreClosedFrom g wanted marks 0
    → AreClosed g marks
closed_all g wanted marks is = record {
  size = is.size;
  uses = λ k c inside marked lt. is.uses k c
      (omega arith) inside marked lt;
}
