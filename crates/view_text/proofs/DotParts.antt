-- Statements, one after the other.
use Rattle.std.proofs.Common.{◌≡◌, ◌∙◌, ℕ, Bool, true, false, cond, ◌&&◌, List, [], ◌∷◌, ◌++◌, append_assoc, append-nil, refl, sym, ap}
use Rattle.view_text.specs.Dot.{Id, Attribute, Statement, of_graph, of_nodes, of_edges, node, edge, is_id, more_attributes, are_attributes, statement_line, statement_lines, is_statement, are_statements, nodes_of, edges_of}
use Rattle.view_text.proofs.Digits.{both, two}

pub more-append : (xs ys : List Attribute) → more_attributes (xs ++ ys) ≡ more_attributes xs ++ more_attributes ys
more-append [] ys = refl
more-append (x ∷ xs) ys = rw (more-append xs ys) (simp append_assoc)

pub attributes-append : (xs ys : List Attribute) → are_attributes xs ≡ true → are_attributes ys ≡ true → are_attributes (xs ++ ys) ≡ true
attributes-append [] ys p q = q
attributes-append (x ∷ xs) ys p q =
    let h = both (is_id x.key && is_id x.value) (are_attributes xs) p in
    two (is_id x.key && is_id x.value) (are_attributes (xs ++ ys)) h.0 (attributes-append xs ys h.1 q)

pub lines-append : (xs ys : List Statement) → statement_lines (xs ++ ys) ≡ statement_lines xs ++ statement_lines ys
lines-append [] ys = refl
lines-append (x ∷ xs) ys = rw (lines-append xs ys) (sym (append_assoc (statement_line x) (statement_lines xs) (statement_lines ys)))

pub statements-append : (xs ys : List Statement) → are_statements xs ≡ true → are_statements ys ≡ true → are_statements (xs ++ ys) ≡ true
statements-append [] ys p q = q
statements-append (x ∷ xs) ys p q =
    let h = both (is_statement x) (are_statements xs) p in
    two (is_statement x) (are_statements (xs ++ ys)) h.0 (statements-append xs ys h.1 q)

pub nodes-append : (xs ys : List Statement) → nodes_of (xs ++ ys) ≡ nodes_of xs ++ nodes_of ys
nodes-append [] ys = refl
nodes-append (of_graph a ∷ xs) ys = nodes-append xs ys
nodes-append (of_nodes given ∷ xs) ys = nodes-append xs ys
nodes-append (of_edges given ∷ xs) ys = nodes-append xs ys
nodes-append (node id given ∷ xs) ys = ap (λ (ids : List Id). id ∷ ids) (nodes-append xs ys)
nodes-append (edge one other given ∷ xs) ys = nodes-append xs ys

pub edges-append : (xs ys : List Statement) → edges_of (xs ++ ys) ≡ edges_of xs ++ edges_of ys
edges-append [] ys = refl
edges-append (of_graph a ∷ xs) ys = edges-append xs ys
edges-append (of_nodes given ∷ xs) ys = edges-append xs ys
edges-append (of_edges given ∷ xs) ys = edges-append xs ys
edges-append (node id given ∷ xs) ys = edges-append xs ys
edges-append (edge one other given ∷ xs) ys = ap (λ (es : List (Id × Id)). (one, other) ∷ es) (edges-append xs ys)

-- ---- lines of statements

pub record AreLines (text : List ℕ) : Type 0 where
  pub statements : List Statement
  pub are : are_statements statements ≡ true
  pub is : text ≡ statement_lines statements

pub no_lines : AreLines []
no_lines = record { statements = []; are = refl; is = refl }

pub one_line : (s : Statement) (text : List ℕ) → is_statement s ≡ true → text ≡ statement_line s → AreLines text
one_line s text is e = record {
  statements = s ∷ [];
  are = two (is_statement s) true is refl;
  is = e ∙ sym (append-nil (statement_line s));
}

pub both_lines : (xs ys : List ℕ) → AreLines xs → AreLines ys → AreLines (xs ++ ys)
both_lines xs ys p q = record {
  statements = p.statements ++ q.statements;
  are = statements-append p.statements q.statements p.are q.are;
  is =
      ap (λ (l : List ℕ). l ++ ys) p.is
      ∙ (ap (λ (l : List ℕ). statement_lines p.statements ++ l) q.is ∙ sym (lines-append p.statements q.statements));
}

pub lines_where : (b : Bool) (xs : List ℕ) → AreLines xs → AreLines (cond b xs [])
lines_where true xs h = h
lines_where false xs h = no_lines
