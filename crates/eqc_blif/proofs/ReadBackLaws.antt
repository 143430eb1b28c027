-- A plain library is read back from its plain text.
use Rattle.std.proofs.Common.{
  ◌≡◌,
  ℕ,
  zero,
  suc,
  ◌+◌,
  ◌-◌,
  Bool,
  true,
  false,
  ◌&&◌,
  not,
  List,
  [],
  ◌∷◌,
  ◌++◌,
  length,
  take,
  map,
  get_or,
  eqb,
  ltb,
  Some,
  None,
  Ok,
  refl,
  sym,
  ◌∙◌,
  ap,
  subst,
  arith,
  append_assoc,
  inl,
  inr,
}
use Rattle.std.specs.Prelude.{codes}
use Rattle.std.specs.List.{list_all, list_any, flat_map, position_or_len, before_first, after_first}
use Rattle.std.specs.List.{enumerate_from}
use Rattle.std.proofs.lemmas.List.{length_push, get_or_push, take_at, append-nil, map-append}
use Rattle.std.proofs.lemmas.List.Folds.{list_all-append}
use Rattle.std.proofs.lemmas.Bool.{and_parts, or_parts, not-true, cases_Bool, eqb-true, eq-eqb}
use Rattle.std.proofs.lemmas.Bool.{ne_eqb, true≢false}
use Rattle.eqc_blif.specs.Netlist.{CoverOf, InstanceOf, ModelOf}
use Rattle.eqc_blif.specs.Words.{first_of, behind_first, without_blanks, is_equals_sign, pair_of}
use Rattle.eqc_blif.specs.Words.{is_pair, cover_of}
use Rattle.eqc_netlist.specs.Names.{is_named, has_twice}
use Rattle.eqc_blif.specs.Kind.{kind_of}
use Rattle.eqc_blif.specs.Reading.{
  After,
  start,
  opened,
  models,
  is_column_value,
  is_output_value,
  row_output,
  has_row_shape,
  differs_from_first,
  last_cover,
  row_added,
  first_code,
  statement_code,
  then_statement,
  line_code,
  then_line,
  or_behind,
  first_fault,
  after,
  outcome_by,
  outcome_of_lines,
  library_or_none,
}
use Rattle.eqc_blif.specs.Steps.{cover_with_row, row_code}
use Rattle.eqc_blif.specs.Laws.{lists_are_distinct, ends_alike}
use Rattle.eqc_blif.specs.PlainText.{
  with_blanks,
  is_plain_word,
  is_plain_line,
  cover_lines,
  pair_word,
  instance_line,
  model_lines,
  library_lines,
  is_plain_cover,
  is_plain_pair,
  is_plain_model,
  LibrariesAreReadBack,
}
use Rattle.eqc_blif.specs.declared.reader.kind.Kind.{Kind}
use Rattle.eqc_blif.specs.declared.reader.kind.Kind.TheVariants.{Model, Inputs, Outputs, Names}
use Rattle.eqc_blif.specs.declared.reader.kind.Kind.TheVariants.{Subckt, End, Row}
use Rattle.eqc_blif.proofs.CleanLaws.{before_cut}
use Rattle.eqc_netlist.proofs.NameLemmas.{twice_there}
use Rattle.eqc_blif.proofs.RowLemmas.{last_pushed, row_pushed}
use Rattle.eqc_blif.proofs.PlainLaws.{before_none, no_bad_byte, word_without_blanks, plain_words}
use Rattle.eqc_blif.proofs.PlainLaws.{words_back, logical_back}
use Rattle.eqc_blif.proofs.FitLaws.{one_holds}

-- lines that have no code, one behind the other, and what stands after them
abbrev Reads : After → List (List (List ℕ)) → After → Type 0
Reads st [] end = st ≡ end
Reads st (ws ∷ more) end = (line_code st (with_blanks ws) ≡ None)
    × Reads (then_line (with_blanks ws) st) more end

reads_all : (n : ℕ) (st end : After) (lines : List (List (List ℕ))) → Reads st lines end
    → (first_fault st (enumerate_from n (map with_blanks lines)) ≡ None)
    × (after st (enumerate_from n (map with_blanks lines)) ≡ end)
reads_all n st end [] reads = (refl, reads)
reads_all n st end (ws ∷ more) reads =
    let behind = reads_all (n + 1) (then_line (with_blanks ws) st) end more reads.1 in (
      ap (λ code. or_behind n code (first_fault (then_line (with_blanks ws) st)
          (enumerate_from (n + 1) (map with_blanks more)))) reads.0 ∙ behind.0,
      behind.1,
    )

-- a plain line of some kind
read_line : (kind : Kind) (st end : After) (ws : List (List ℕ)) (more : List (List (List ℕ)))
    → is_plain_line ws ≡ true
    → kind_of (first_of ws) ≡ kind
    → statement_code (opened kind st) kind (behind_first ws) (without_blanks (with_blanks ws))
    ≡ None
    → Reads (then_statement kind (behind_first ws) (without_blanks (with_blanks ws))
    (opened kind st)) more end
    → Reads st (ws ∷ more) end
read_line kind st end ws more plain is none rest =
    let each = plain_words ws plain in
    let back = words_back ws each in
    let row = without_blanks (with_blanks ws) in
    let same : statement_code (opened (kind_of (first_of ws)) st) (kind_of (first_of ws))
    (behind_first ws) row ≡ None = ap (λ k. statement_code (opened k st) k (behind_first ws)
    row) is ∙ none in
    let code : line_code st (with_blanks ws) ≡ None =
    rw (no_bad_byte ws each) (ap (λ w. statement_code (opened (kind_of (first_of w)) st)
    (kind_of (first_of w)) (behind_first w) row) back ∙ same) in
    let moved : then_line (with_blanks ws) st ≡ then_statement kind (behind_first ws) row
    (opened kind st) =
    ap (λ w. then_statement (kind_of (first_of w)) (behind_first w) row
    (opened (kind_of (first_of w)) st)) back
    ∙ ap (λ k. then_statement k (behind_first ws) row (opened k st)) is in
    (code, subst (λ s. Reads s more end) (sym moved) rest)

-- what stands in a model that is open
abbrev in_model : List ModelOf → ModelOf → Bool → After
in_model closed m in_cover = record {
  closed = closed;
  open_model =
      Some (record { model = m; in_cover = in_cover });
}

abbrev between : List ModelOf → After
between closed = record { closed = closed; open_model = None }

abbrev with_covers : ModelOf → List CoverOf → ModelOf
with_covers m covers = record m { covers = covers }

abbrev with_instances : ModelOf → List InstanceOf → ModelOf
with_instances m instances = record m { instances = instances }

abbrev with_rows : CoverOf → List (List ℕ) → CoverOf
with_rows cover rows = record cover { rows = rows }

no_condition : (code : ℕ) (b : Bool) → b ≡ false → first_code ((code, b) ∷ []) ≡ None
no_condition code b none = rw none refl

no_conditions : (code other : ℕ) (a b : Bool) → a ≡ false → b ≡ false
    → first_code ((code, a) ∷ (other, b) ∷ []) ≡ None
no_conditions code other a b none neither = rw (none, neither) refl

-- rows that end in the same byte
same_end : (v : ℕ) (rows : List (List ℕ)) (row : List ℕ) → list_all (λ r. eqb (row_output r) v) rows
    ≡ true → eqb (row_output row) v ≡ true → differs_from_first rows row ≡ false
same_end v [] row all last = refl
same_end v (first ∷ rows) row all last =
    let before : row_output first ≡ v =
    eqb-true (row_output first) v (and_parts (eqb (row_output first) v)
    (list_all (λ r. eqb (row_output r) v) rows) all).0 in
    let here : row_output row ≡ v = eqb-true (row_output row) v last in
    rw (eq-eqb (row_output row) (row_output first) (here ∙ sym before)) refl

column_no_dot : (byte : ℕ) → is_column_value byte ≡ true → eqb byte 46 ≡ false
column_no_dot byte value = elim (cases_Bool (eqb byte 46)) [
  | inl dot ↦ absurd (true≢false (sym value ∙ ap is_column_value (eqb-true byte 46 dot)))
  | inr other ↦ other
]

output_no_dot : (byte : ℕ) → is_output_value byte ≡ true → eqb byte 46 ≡ false
output_no_dot byte value = elim (cases_Bool (eqb byte 46)) [
  | inl dot ↦ absurd (true≢false (sym value ∙ ap is_output_value (eqb-true byte 46 dot)))
  | inr other ↦ other
]

-- what has the shape of a row is a row
row_kind : (n : ℕ) (row : List ℕ) → has_row_shape n row ≡ true → kind_of row ≡ Row
row_kind n [] shape =
    let long : 0 ≡ n + 1 = eqb-true 0 (n + 1) (and_parts (eqb 0 (n + 1)) (list_all is_column_value
    (take n []) && is_output_value (get_or [] n 0)) shape).0 in
    absurd (omega (arith, long))
row_kind zero (byte ∷ row) shape =
    let parts = and_parts (eqb (length (byte ∷ row)) (0 + 1)) (is_output_value byte) shape in
    rw (output_no_dot byte parts.1) refl
row_kind (suc n) (byte ∷ row) shape =
    let values = and_parts (eqb (length (byte ∷ row)) (suc n + 1)) (list_all is_column_value (byte
    ∷ take n row) && is_output_value (get_or row n 0)) shape in
    let columns = and_parts (list_all is_column_value (byte ∷ take n row))
    (is_output_value (get_or row n 0)) values.1 in
    rw (column_no_dot byte (and_parts (is_column_value byte) (list_all is_column_value (take n row))
    columns.0).0) refl

row_none : (covers : List CoverOf) (cover : CoverOf) (row bytes : List ℕ) → last_cover covers
    ≡ cover → bytes ≡ row
    → has_row_shape (length cover.columns) row ≡ true → differs_from_first cover.rows row ≡ false
    → row_code (last_cover covers) bytes ≡ None
row_none covers cover row bytes last is shape same = ap (λ c. row_code c bytes) last
    ∙ (ap (row_code cover) is ∙ rw (shape, same) refl)

-- the rows of a cover, which end in the same byte
read_rows : (closed : List ModelOf) (m : ModelOf) (covers : List CoverOf) (cover : CoverOf) (v : ℕ)
    (rows : List (List ℕ))
    (more : List (List (List ℕ))) (end : After) → list_all (has_row_shape (length cover.columns))
    rows ≡ true
    → list_all (λ r. eqb (row_output r) v) cover.rows ≡ true
    → list_all (λ r. eqb (row_output r) v) rows ≡ true
    → list_all is_plain_line (map (λ row. row ∷ []) rows) ≡ true
    → Reads (in_model closed (with_covers m (covers ++ with_rows cover (cover.rows ++ rows) ∷ []))
    true) more end
    → Reads (in_model closed (with_covers m (covers ++ cover ∷ [])) true) (map (λ row. row ∷ [])
    rows ++ more) end
read_rows closed m covers cover v [] more end shapes before ends plain rest =
    subst (λ rows. Reads (in_model closed (with_covers m (covers ++ with_rows cover rows ∷ []))
    true) more end) (append-nil cover.rows) rest
read_rows closed m covers cover v (row ∷ rows) more end shapes before ends plain rest =
    let shape = and_parts (has_row_shape (length cover.columns) row)
    (list_all (has_row_shape (length cover.columns)) rows) shapes in
    let last = and_parts (eqb (row_output row) v) (list_all (λ r. eqb (row_output r) v) rows) ends
    in
    let lines = and_parts (is_plain_line (row ∷ [])) (list_all is_plain_line (map (λ row. row ∷ [])
    rows)) plain in
    let word = and_parts (is_plain_word row) true (plain_words (row ∷ []) lines.0) in
    let clean : without_blanks row ≡ row = word_without_blanks row word.0 in
    let none = row_none (covers ++ cover ∷ []) cover row (without_blanks row)
    (last_pushed covers cover) clean shape.0 (same_end v cover.rows row before last.0) in
    let more_rows : list_all (λ r. eqb (row_output r) v) (cover.rows ++ row ∷ []) ≡ true =
    list_all-append (λ r. eqb (row_output r) v) cover.rows (row ∷ []) ∙ rw (before, last.0) refl
    in
    let rest_is = subst (λ rows. Reads
    (in_model closed (with_covers m (covers ++ with_rows cover rows ∷ [])) true) more end)
    (sym (append_assoc cover.rows (row ∷ []) rows)) rest in
    let behind = read_rows closed m covers (cover_with_row row cover) v rows more end shape.1
    more_rows last.1 lines.1 rest_is in
    let added : covers ++ cover_with_row row cover ∷ [] ≡ row_added (without_blanks row) (covers
    ++ cover ∷ []) =
    sym (ap (λ bytes. row_added bytes (covers ++ cover ∷ [])) clean ∙ row_pushed covers cover row)
    in
    read_line Row (in_model closed (with_covers m (covers ++ cover ∷ [])) true) end (row ∷ [])
    (map (λ row. row ∷ []) rows ++ more) lines.0 (row_kind (length cover.columns) row shape.0)
    none
    (subst (λ covers. Reads (in_model closed (with_covers m covers) true) (map (λ row. row ∷ [])
    rows ++ more) end) added behind)

-- the words of `.names` give its cover
cover_back : (columns : List (List ℕ)) (output : List ℕ) → cover_of (columns ++ output ∷ [])
    ≡ record { columns = columns; output = output; rows = [] }
cover_back columns output =
    let last : length (columns ++ output ∷ []) - 1 ≡ length columns =
    omega (arith, length_push columns output) in
    rw (
      last,
      take_at columns (output ∷ []) (length columns) refl,
      get_or_push columns output []
          (length columns) refl,
    ) refl

read_cover : (closed : List ModelOf) (m : ModelOf) (covers : List CoverOf) (in_cover : Bool)
    (cover : CoverOf) (more : List (List (List ℕ)))
    (end : After) → is_plain_cover cover ≡ true → list_all is_plain_line (cover_lines cover) ≡ true
    → Reads (in_model closed (with_covers m (covers ++ cover ∷ [])) true) more end
    → Reads (in_model closed (with_covers m covers) in_cover) (cover_lines cover ++ more) end
read_cover closed m covers in_cover cover more end plain lines rest =
    let ws = cover.columns ++ cover.output ∷ [] in
    let fits = and_parts (list_all (has_row_shape (length cover.columns)) cover.rows)
    (ends_alike cover) plain in
    let parts = and_parts (is_plain_line (codes ".names" ∷ ws)) (list_all is_plain_line
    (map (λ row. row ∷ []) cover.rows)) lines in
    let some : eqb (length ws) 0 ≡ false =
    ne_eqb (length ws) 0 (λ e. absurd
    (omega (arith, e, length_push cover.columns cover.output))) in
    let behind =
    elim (one_holds (list_all (λ r. eqb (row_output r) 48) cover.rows)
    (list_all (λ r. eqb (row_output r) 49) cover.rows) fits.1) as
    (λ _.
    Reads (in_model closed (with_covers m (covers ++ with_rows cover [] ∷ [])) true)
    (map (λ row. row ∷ []) cover.rows ++ more)
    end) [
      | inl low ↦ read_rows closed m covers (with_rows cover []) 48 cover.rows more end fits.0 refl
          low parts.1 rest
      | inr high ↦ read_rows closed m covers (with_rows cover []) 49 cover.rows more end fits.0 refl
          high parts.1 rest
    ] in
    read_line Names (in_model closed (with_covers m covers) in_cover) end (codes ".names" ∷ ws)
    (map (λ row. row ∷ []) cover.rows ++ more) parts.0 refl (no_condition 10 (eqb (length ws) 0)
    some)
    (subst (λ c. Reads (in_model closed (with_covers m (covers ++ c ∷ [])) true)
    (map (λ row. row ∷ []) cover.rows ++ more) end)
    (sym (cover_back cover.columns cover.output)) behind)

read_covers : (closed : List ModelOf) (m : ModelOf) (covers before : List CoverOf) (in_cover : Bool)
    (more : List (List (List ℕ)))
    (end : After) → list_all is_plain_cover covers ≡ true
    → list_all is_plain_line (flat_map cover_lines covers) ≡ true
    → ((b : Bool) → Reads (in_model closed (with_covers m (before ++ covers)) b) more end)
    → Reads (in_model closed (with_covers m before) in_cover) (flat_map cover_lines covers ++ more)
    end
read_covers closed m [] before in_cover more end plain lines rest =
    subst (λ covers. Reads (in_model closed (with_covers m covers) in_cover) more end)
    (append-nil before) (rest in_cover)
read_covers closed m (cover ∷ covers) before in_cover more end plain lines rest =
    let each = and_parts (is_plain_cover cover) (list_all is_plain_cover covers) plain in
    let parts =
    and_parts (list_all is_plain_line (cover_lines cover)) (list_all is_plain_line
    (flat_map cover_lines covers))
    (sym (list_all-append is_plain_line (cover_lines cover) (flat_map cover_lines covers)) ∙ lines)
    in
    let behind =
    read_covers closed m covers (before ++ cover ∷ []) true more end each.1 parts.1
    (λ b.
    subst (λ all. Reads (in_model closed (with_covers m all) b) more end)
    (sym (append_assoc before (cover ∷ []) covers))
    (rest b)) in
    subst (λ ls. Reads (in_model closed (with_covers m before) in_cover) ls end)
    (sym (append_assoc (cover_lines cover) (flat_map cover_lines covers) more))
    (read_cover closed m before in_cover cover (flat_map cover_lines covers ++ more) end each.0
    parts.0 behind)

-- what stands behind the first mark
after_cut : (p : ℕ → Bool) (mark : ℕ) (xs ys : List ℕ) → p mark ≡ true
    → list_all (λ x. not (p x)) xs ≡ true → after_first p (xs ++ mark ∷ ys) ≡ ys
after_cut p mark [] ys passes none = rw passes refl
after_cut p mark (x ∷ xs) ys passes none =
    let parts = and_parts (not (p x)) (list_all (λ x. not (p x)) xs) none in
    let one : 1 + position_or_len p (xs ++ mark ∷ ys) ≡ suc (position_or_len p (xs ++ mark ∷ ys)) =
    omega arith in
    let two : suc (position_or_len p (xs ++ mark ∷ ys)) + 1
    ≡ suc (position_or_len p (xs ++ mark ∷ ys) + 1) = omega arith in
    rw (not-true (p x) parts.0, one, two) (after_cut p mark xs ys passes parts.1)

all_none : (p : ℕ → Bool) (xs : List ℕ) → list_any p xs ≡ false → list_all (λ x. not (p x)) xs
    ≡ true
all_none p [] none = refl
all_none p (x ∷ xs) none =
    let parts = or_parts (p x) (list_any p xs) none in
    rw (parts.0, all_none p xs parts.1) refl

-- a pair is split where it was joined
pair_back : (pair : List ℕ × List ℕ) → list_any is_equals_sign pair.0 ≡ false
    → pair_of (pair_word pair) ≡ pair
pair_back (formal, actual) none =
    let no_sign = all_none is_equals_sign formal none in
    let before : before_first is_equals_sign (formal ++ 61 ∷ actual) ≡ formal =
    before_cut is_equals_sign 61 formal actual refl ∙ before_none is_equals_sign formal no_sign
    in
    let behind : after_first is_equals_sign (formal ++ 61 ∷ actual) ≡ actual =
    after_cut is_equals_sign 61 formal actual refl no_sign in
    ap (λ f. (f, after_first is_equals_sign (formal ++ 61 ∷ actual))) before
    ∙ ap (λ a. (formal, a)) behind

pairs_back : (pairs : List (List ℕ × List ℕ)) → list_all is_plain_pair pairs ≡ true
    → (list_all is_pair (map pair_word pairs) ≡ true) × (map pair_of (map pair_word pairs) ≡ pairs)
pairs_back [] plain = (refl, refl)
pairs_back (pair ∷ pairs) plain =
    let parts = and_parts (is_plain_pair pair) (list_all is_plain_pair pairs) plain in
    let some = and_parts (ltb 0 (length pair.0)) (ltb 0 (length pair.1)
    && not (list_any is_equals_sign pair.0)) parts.0 in
    let both = and_parts (ltb 0 (length pair.1)) (not (list_any is_equals_sign pair.0)) some.1 in
    let back = pair_back pair (not-true (list_any is_equals_sign pair.0) both.1) in
    let more = pairs_back pairs parts.1 in
    let here : is_pair (pair_word pair) ≡ true = ap (λ p. ltb 0 (length p.0) && ltb 0 (length p.1))
    back ∙ rw (some.0, both.0) refl in (
      rw (here, more.0) refl,
      ap (λ p. p ∷ map pair_of (map pair_word pairs)) back
          ∙ ap (λ rest. pair ∷ rest) more.1,
    )

read_instances : (closed : List ModelOf) (m : ModelOf) (instances before : List InstanceOf)
    (in_cover : Bool) (more : List (List (List ℕ)))
    (end : After) → list_all (λ i. list_all is_plain_pair i.pairs) instances ≡ true
    → list_all is_plain_line (map instance_line instances) ≡ true
    → ((b : Bool) → Reads (in_model closed (with_instances m (before ++ instances)) b) more end)
    → Reads (in_model closed (with_instances m before) in_cover) (map instance_line instances
    ++ more) end
read_instances closed m [] before in_cover more end plain lines rest =
    subst (λ instances. Reads (in_model closed (with_instances m instances) in_cover) more end)
    (append-nil before) (rest in_cover)
read_instances closed m (i ∷ instances) before in_cover more end plain lines rest =
    let each = and_parts (list_all is_plain_pair i.pairs)
    (list_all (λ i. list_all is_plain_pair i.pairs) instances) plain in
    let parts = and_parts (is_plain_line (instance_line i)) (list_all is_plain_line
    (map instance_line instances)) lines in
    let pairs = pairs_back i.pairs each.0 in
    let ws = i.model ∷ map pair_word i.pairs in
    let good : not (list_all is_pair (map pair_word i.pairs)) ≡ false = rw pairs.0 refl in
    let some : eqb (length ws) 0 ≡ false = ne_eqb (length ws) 0 (omega arith) in
    let behind =
    read_instances closed m instances (before ++ i ∷ []) false more end each.1 parts.1
    (λ b.
    subst (λ all. Reads (in_model closed (with_instances m all) b) more end)
    (sym (append_assoc before (i ∷ []) instances))
    (rest b)) in
    read_line Subckt (in_model closed (with_instances m before) in_cover) end (instance_line i)
    (map instance_line instances ++ more)
    parts.0 refl (no_conditions 9 10 (not (list_all is_pair (map pair_word i.pairs)))
    (eqb (length ws) 0) good some)
    (subst (λ pairs. Reads (in_model closed (with_instances m (before ++ record {
      model = i.model;
      pairs = pairs;
    } ∷ [])) false) (map instance_line instances ++ more) end) (sym pairs.1)
    behind)

read_model : (closed : List ModelOf) (m : ModelOf) (more : List (List (List ℕ))) (end : After)
    → is_named (map (λ m. m.name) closed) m.name ≡ false → has_twice m.inputs ≡ false
    → has_twice m.outputs ≡ false
    → is_plain_model m ≡ true → list_all is_plain_line (model_lines m) ≡ true
    → Reads (between (closed ++ m ∷ [])) more end
    → Reads (between closed) (model_lines m ++ more) end
read_model closed m more end new inputs outputs plain lines rest =
    let covers = flat_map cover_lines m.covers in
    let instances = map instance_line m.instances in
    let ending = codes ".end" ∷ [] in
    let body = covers ++ (instances ++ ending ∷ []) in
    let one = and_parts (is_plain_line (codes ".model" ∷ m.name ∷ [])) (list_all is_plain_line
    ((codes ".inputs" ∷ m.inputs) ∷ (codes ".outputs" ∷ m.outputs) ∷ body)) lines in
    let two = and_parts (is_plain_line (codes ".inputs" ∷ m.inputs)) (list_all is_plain_line
    ((codes ".outputs" ∷ m.outputs) ∷ body)) one.1 in
    let three = and_parts (is_plain_line (codes ".outputs" ∷ m.outputs)) (list_all is_plain_line
    body) two.1 in
    let four = and_parts (list_all is_plain_line covers) (list_all is_plain_line (instances
    ++ ending ∷ [])) (sym (list_all-append is_plain_line covers (instances ++ ending ∷ []))
    ∙ three.1) in
    let five = and_parts (list_all is_plain_line instances) (list_all is_plain_line (ending ∷ []))
    (sym (list_all-append is_plain_line instances (ending ∷ [])) ∙ four.1) in
    let six = and_parts (is_plain_line ending) true five.1 in
    let each = and_parts (list_all is_plain_cover m.covers)
    (list_all (λ i. list_all is_plain_pair i.pairs) m.instances) plain in
    let named : ModelOf = record {
      name = m.name;
      inputs = [];
      outputs = [];
      covers = [];
      instances = [];
    } in
    let fed : ModelOf = record {
      name = m.name;
      inputs = m.inputs;
      outputs = [];
      covers = [];
      instances = [];
    } in
    let bare : ModelOf = record {
      name = m.name;
      inputs = m.inputs;
      outputs = m.outputs;
      covers =
          [];
      instances = [];
    } in
    let together : body ++ more ≡ covers ++ (instances ++ ending ∷ more) =
    append_assoc covers (instances ++ ending ∷ []) more
    ∙ ap (λ ls. covers ++ ls) (append_assoc instances (ending ∷ []) more) in
    let inner : Reads (in_model closed bare false) (covers ++ (instances ++ ending ∷ more)) end =
    read_covers closed bare m.covers [] false (instances ++ ending ∷ more) end each.0 four.0 (λ b.
    read_instances closed (with_covers bare m.covers) m.instances [] b (ending ∷ more) end each.1
    five.0 (λ b.
    read_line End (in_model closed m b) end ending more six.0 refl refl rest)) in
    let in_body = subst (λ ls. Reads (in_model closed bare false) ls end) (sym together) inner in
    read_line Model (between closed) end (codes ".model" ∷ m.name ∷ [])
    ((codes ".inputs" ∷ m.inputs) ∷ (codes ".outputs" ∷ m.outputs) ∷ (body ++ more)) one.0 refl
    (no_condition 11 (is_named (map (λ m. m.name) closed) m.name) new)
    (read_line Inputs (in_model closed named false) end (codes ".inputs" ∷ m.inputs)
    ((codes ".outputs" ∷ m.outputs) ∷ (body ++ more)) two.0 refl
    (no_condition 12 (has_twice m.inputs) inputs)
    (read_line Outputs (in_model closed fed false) end (codes ".outputs" ∷ m.outputs) (body ++ more)
    three.0 refl (no_condition 12 (has_twice m.outputs) outputs) in_body))

-- a name that stands once is not among those before it
new_name : (before : List ModelOf) (m : ModelOf) (behind : List ModelOf)
    → has_twice (map (λ m. m.name) (before ++ m ∷ behind)) ≡ false
    → is_named (map (λ m. m.name) before) m.name ≡ false
new_name before m behind once = elim (cases_Bool (is_named (map (λ m. m.name) before) m.name)) [
  | inl there ↦ absurd (true≢false (sym (ap has_twice (map-append (λ m. m.name) before (m ∷ behind))
      ∙ twice_there (map (λ m. m.name) before) (map (λ m. m.name) behind) m.name there) ∙ once))
  | inr other ↦ other
]

read_models : (ms before : List ModelOf) → has_twice (map (λ m. m.name) (before ++ ms)) ≡ false
    → lists_are_distinct ms ≡ true
    → list_all is_plain_model ms ≡ true → list_all is_plain_line (library_lines ms) ≡ true
    → Reads (between before) (library_lines ms) (between (before ++ ms))
read_models [] before once lists plain lines = ap between (sym (append-nil before))
read_models (m ∷ ms) before once lists plain lines =
    let distinct = and_parts (not (has_twice m.inputs) && not (has_twice m.outputs))
    (lists_are_distinct ms) lists in
    let both = and_parts (not (has_twice m.inputs)) (not (has_twice m.outputs)) distinct.0 in
    let each = and_parts (is_plain_model m) (list_all is_plain_model ms) plain in
    let parts = and_parts (list_all is_plain_line (model_lines m)) (list_all is_plain_line
    (library_lines ms)) (sym (list_all-append is_plain_line (model_lines m) (library_lines ms))
    ∙ lines) in
    let together = append_assoc before (m ∷ []) ms in
    let behind = read_models ms (before ++ m ∷ []) (ap (λ all. has_twice (map (λ m. m.name) all))
    together ∙ once) distinct.1 each.1 parts.1 in
    read_model before m (library_lines ms) (between (before ++ m ∷ ms)) (new_name before m ms once)
    (not-true (has_twice m.inputs) both.0) (not-true (has_twice m.outputs) both.1) each.0
    parts.0
    (subst (λ all. Reads (between (before ++ m ∷ [])) (library_lines ms) (between all)) together
    behind)

some_library : (ms : List ModelOf) → ltb 0 (length ms) ≡ true → library_or_none ms ≡ Ok ms
some_library [] some = absurd (true≢false (sym some))
some_library (m ∷ ms) some = refl

pub libraries_are_read_back : LibrariesAreReadBack
libraries_are_read_back limit ms plain =
    let lines = library_lines ms in
    let reads = reads_all 1 start (between ms) lines (read_models ms [] plain.names plain.lists
    plain.models plain.lines) in
    rw plain.short (ap outcome_of_lines (logical_back 1 lines plain.lines)
    ∙ (ap (λ fault. outcome_by fault
    (models (after start (enumerate_from 1 (map with_blanks lines))))) reads.0
    ∙ (ap (λ st. outcome_by None (models st)) reads.1 ∙ some_library ms plain.some)))
