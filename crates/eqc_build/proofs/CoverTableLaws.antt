-- Tables of covers: one more, and the same ones.
use Rattle.std.proofs.Common.{◌≡◌, ℕ, ◌≤◌, List, [], true, cond, nat_eq, eq-eqb, ne_eqb, get_or}
use Rattle.std.proofs.Common.{sym, ◌∙◌, ap, Some, None, inl, inr, subst}
use Rattle.std.specs.Map.{lookup}
use Rattle.std.proofs.lemmas.Bool.{cases_eq}
use Rattle.eqc_netlist.specs.Cover.{cover_value}
use Rattle.eqc_cover.specs.Table.{Tabulates}
use Rattle.eqc_netlist.specs.Graph.{FlatOf}
use Rattle.eqc_build.specs.CoverTables.{AreTablesOf, IsTableOf}
use Rattle.eqc_build.specs.declared.cover_tables.CoverTable.{CoverTable}

-- what holds of each entry holds when there is one more of which it holds
pub entries_more : {X : Type 0} (P : ℕ → X → Type 0) (old new : List (ℕ × X)) (r : ℕ) (x : X)
    → ((q : ℕ) (y : X) → lookup (nat_eq q) old ≡ Some y → P q y) → P r x →
    ((q : ℕ) → lookup (nat_eq q) new ≡ cond (nat_eq r q) (Some x) (lookup (nat_eq q) old))
    → (q : ℕ) (y : X) → lookup (nat_eq q) new ≡ Some y → P q y
entries_more P old new r x h is more q y got = elim (cases_eq q r) [
  | inl same ↦
      let here : nat_eq r q ≡ true = eq-eqb r q (sym same) in
      let found : Some x ≡ Some y = ap (λ b. cond b (Some x) (lookup (nat_eq q) old)) (sym here)
      ∙ (sym (more q) ∙ got) in
      let one : x ≡ y = cc in
      subst (λ u. P q u) one (subst (λ n. P n x) (sym same) is)
  | inr apart ↦ h q y (sym (ap (λ b. cond b (Some x) (lookup (nat_eq q) old))
      (ne_eqb r q (λ e. apart (sym e)))) ∙ (sym (more q) ∙ got))
]

-- the table of one more cover
pub tables_more : (f : FlatOf) (old new : List (ℕ × CoverTable)) (r columns table : ℕ)
    → AreTablesOf f old → columns ≤ 6 →
    Tabulates table columns (cover_value (get_or f.rows r [])) →
    ((q : ℕ) → lookup (nat_eq q) new ≡ cond (nat_eq r q) (Some (record {
      columns = columns;
      table =
          table;
    })) (lookup (nat_eq q) old)) → AreTablesOf f new
tables_more f old new r columns table h few is more =
    record {
      each = entries_more (IsTableOf f) old new r (record {
        columns = columns;
        table =
            table;
      }) h.each (record { few = few; value = is }) more;
    }

-- the tables that were there
pub tables_same : (f : FlatOf) (old new : List (ℕ × CoverTable)) → AreTablesOf f old → new ≡ old
    → AreTablesOf f new
tables_same f old new h is = record {
  each = λ r t got. h.each r t (sym (ap (lookup (nat_eq r)) is)
      ∙ got);
}

-- no tables
pub tables_none : (f : FlatOf) (tables : List (ℕ × CoverTable)) → tables ≡ [] → AreTablesOf f tables
tables_none f tables none = record {
  each = λ r t got. absurd (let q : None ≡ Some t =
      sym (ap (lookup (nat_eq r)) none) ∙ got in cc);
}
