-- No name stands twice in what was read without a fault.
use Rattle.std.proofs.Common.{◌≡◌, Bool, true, false, ◌&&◌, not, List, [], ◌∷◌, ◌++◌, map, Some}
use Rattle.std.proofs.Common.{None, refl, sym, ◌∙◌, ap}
use Rattle.std.proofs.lemmas.List.{map_push}
use Rattle.std.proofs.lemmas.List.Folds.{list_all-append}
use Rattle.std.proofs.lemmas.Bool.{and_parts, not-true}
use Rattle.eqc_blif.specs.Netlist.{ModelOf}
use Rattle.eqc_blif.specs.Words.{first_of}
use Rattle.eqc_netlist.specs.Names.{is_named, has_twice}
use Rattle.eqc_blif.specs.Reading.{begun, models_of}
use Rattle.eqc_blif.specs.Laws.{lists_are_distinct, LibrariesHaveNoNameTwice}
use Rattle.eqc_blif.specs.declared.reader.kind.Kind.TheVariants.{Model, Inputs, Outputs, Names}
use Rattle.eqc_blif.specs.declared.reader.kind.Kind.TheVariants.{Subckt, End, Latch, Skipped}
use Rattle.eqc_blif.specs.declared.reader.kind.Kind.TheVariants.{Unknown, Row}
use Rattle.eqc_netlist.proofs.NameLemmas.{once_more}
use Rattle.eqc_blif.proofs.KeptLaws.{IsKept, library_has, unmet}

-- no model name stands twice, and no name in a list
record Sound (ms : List ModelOf) : Type 0 where
  pub names : has_twice (map (λ m. m.name) ms) ≡ false
  pub lists : lists_are_distinct ms ≡ true

is_distinct : ModelOf → Bool
is_distinct m = not (has_twice m.inputs) && not (has_twice m.outputs)

lists_pushed : (ms : List ModelOf) (m : ModelOf) → lists_are_distinct (ms ++ m ∷ [])
    ≡ (lists_are_distinct ms && (is_distinct m && true))
unfolding is_distinct
lists_pushed ms m = list_all-append is_distinct ms (m ∷ [])

-- a model behind those that are sound
sound_pushed : (ms : List ModelOf) (m : ModelOf) → Sound ms → is_named (map (λ c. c.name) ms) m.name
    ≡ false → has_twice m.inputs ≡ false → has_twice m.outputs ≡ false → Sound (ms ++ m ∷ [])
unfolding is_distinct
sound_pushed ms m sound new inputs outputs = record {
  names = rw (map_push (λ c. c.name) ms m) (once_more (map (λ c. c.name) ms) m.name sound.names
      new);
  lists = lists_pushed ms m ∙ rw (sound.lists, inputs, outputs) refl;
}

-- the last model with another of its name
sound_changed : (ms : List ModelOf) (m new : ModelOf) → Sound (ms ++ m ∷ []) → new.name ≡ m.name
    → has_twice new.inputs ≡ false → has_twice new.outputs ≡ false → Sound (ms ++ new ∷ [])
unfolding is_distinct
sound_changed ms m new sound name inputs outputs =
    let before = and_parts (lists_are_distinct ms) (is_distinct m && true) (sym (lists_pushed ms m)
    ∙ sound.lists) in
    record {
      names = ap has_twice (map_push (λ c. c.name) ms new
          ∙ (ap (λ n. map (λ c. c.name) ms ++ n ∷ []) name ∙ sym (map_push (λ c. c.name) ms m)))
          ∙ sound.names;
      lists = lists_pushed ms new ∙ rw (before.0, inputs, outputs) refl;
    }

last_lists : (ms : List ModelOf) (m : ModelOf) → Sound (ms ++ m ∷ []) → (has_twice m.inputs ≡ false)
    × (has_twice m.outputs ≡ false)
unfolding is_distinct
last_lists ms m sound =
    let last = and_parts (is_distinct m) true (and_parts (lists_are_distinct ms) (is_distinct m
    && true) (sym (lists_pushed ms m) ∙ sound.lists)).1 in
    let both = and_parts (not (has_twice m.inputs)) (not (has_twice m.outputs)) last.0 in
    (not-true (has_twice m.inputs) both.0, not-true (has_twice m.outputs) both.1)

sound_statement : IsKept Sound
sound_statement Model ws row closed o none sound =
    sound_pushed (models_of closed o) (begun (first_of ws)).model sound
    (unmet (is_named (map (λ m. m.name) (models_of closed o)) (first_of ws)) 11 none) refl refl
sound_statement Inputs ws row closed None none sound = sound
sound_statement Inputs ws row closed (Some m) none sound = sound_changed closed m.model _ sound refl
    (unmet (has_twice (m.model.inputs ++ ws)) 12 none) (last_lists closed m.model sound).1
sound_statement Outputs ws row closed None none sound = sound
sound_statement Outputs ws row closed (Some m) none sound = sound_changed closed m.model _ sound
    refl (last_lists closed m.model sound).0 (unmet (has_twice (m.model.outputs ++ ws)) 12 none)
sound_statement Names ws row closed None none sound = sound
sound_statement Names ws row closed (Some m) none sound = let last = last_lists closed m.model sound
    in sound_changed closed m.model _ sound refl last.0 last.1
sound_statement Subckt ws row closed None none sound = sound
sound_statement Subckt ws row closed (Some m) none sound = let last =
    last_lists closed m.model sound in sound_changed closed m.model _ sound refl last.0 last.1
sound_statement End ws row closed o none sound = sound
sound_statement Row ws row closed None none sound = sound
sound_statement Row ws row closed (Some m) none sound = let last = last_lists closed m.model sound
    in sound_changed closed m.model _ sound refl last.0 last.1
sound_statement Latch ws row closed o none sound = sound
sound_statement Skipped ws row closed o none sound = sound
sound_statement Unknown ws row closed o none sound = sound

nothing_twice : Sound ((begun []).model ∷ [])
nothing_twice = record { names = refl; lists = refl }

pub libraries_have_no_name_twice : LibrariesHaveNoNameTwice
libraries_have_no_name_twice limit text library is =
    let sound = library_has Sound sound_statement (record { names = refl; lists = refl })
    nothing_twice limit text library is in
    (sound.names, sound.lists)
