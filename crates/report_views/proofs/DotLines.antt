-- Lines of statements, with the nodes and the cables that they show.
use Rattle.std.proofs.Common.{◌≡◌, ◌∙◌, ℕ, Bool, true, false, ◌&&◌, cond, List, [], ◌∷◌, ◌++◌, append-nil, refl, sym, ap}
use Rattle.std.specs.Prelude.{map}
use Rattle.std.proofs.lemmas.List.{map-append}
use Rattle.cabling.specs.declared.cable.End.{End}
use Rattle.cabling.specs.Wiring.{NodeNumber}
use Rattle.view_text.specs.Dot.{Id, Attribute, Statement, is_quotable, are_attributes, statement_line, statement_lines, is_statement, are_statements, nodes_of, edges_of}
use Rattle.view_text.specs.GraphDot.{node_name}
use Rattle.view_text.proofs.Lemmas.{labelled, labelled_is, lines-append, statements-append, nodes-append, edges-append}
use Rattle.report_views.specs.Dots.{Ends, Shown, nothing, together, edge_of}

pub record AreLines (shown : Shown) (text : List ℕ) : Type 0 where
  pub statements : List Statement
  pub are : are_statements statements ≡ true
  pub is : text ≡ statement_lines statements
  pub nodes : nodes_of statements ≡ map node_name shown.nodes
  pub edges : edges_of statements ≡ map edge_of shown.cables

abbrev pub of_nodes : List NodeNumber → Shown
of_nodes nodes = record { nodes = nodes; cables = [] }

abbrev pub of_cables : List Ends → Shown
of_cables cables = record { nodes = []; cables = cables }

pub both_true : (a b : Bool) → a ≡ true → b ≡ true → a && b ≡ true
both_true true b p q = q
both_true false b p q = cc

pub no_lines : AreLines nothing []
no_lines = record { statements = []; are = refl; is = refl; nodes = refl; edges = refl }

pub one_node : (number : NodeNumber) (label : List ℕ) (more : List Attribute) (text : List ℕ) → is_quotable false label ≡ true →
    are_attributes more ≡ true → text ≡ statement_line (labelled number label more) →
    AreLines (of_nodes (number ∷ [])) text
one_node number label more text fine given e = record {
  statements = labelled number label more ∷ [];
  are = both_true (is_statement (labelled number label more)) true (labelled_is number label more fine given) refl;
  is = e ∙ sym (append-nil (statement_line (labelled number label more)));
  nodes = refl;
  edges = refl;
}

pub one_cable : (one other : End) (s : Statement) (text : List ℕ) → nodes_of (s ∷ []) ≡ [] →
    edges_of (s ∷ []) ≡ map edge_of ((one, other) ∷ []) → is_statement s ≡ true → text ≡ statement_line s →
    AreLines (of_cables ((one, other) ∷ [])) text
one_cable one other s text alone is fine e = record {
  statements = s ∷ [];
  are = both_true (is_statement s) true fine refl;
  is = e ∙ sym (append-nil (statement_line s));
  nodes = alone;
  edges = is;
}

pub both : (s t : Shown) (xs ys : List ℕ) → AreLines s xs → AreLines t ys → AreLines (together s t) (xs ++ ys)
both s t xs ys p q = record {
  statements = p.statements ++ q.statements;
  are = statements-append p.statements q.statements p.are q.are;
  is =
      ap (λ (l : List ℕ). l ++ ys) p.is
      ∙ (ap (λ (l : List ℕ). statement_lines p.statements ++ l) q.is ∙ sym (lines-append p.statements q.statements));
  nodes =
      nodes-append p.statements q.statements
      ∙ (ap (λ (ids : List Id). ids ++ nodes_of q.statements) p.nodes
      ∙ (ap (λ (ids : List Id). map node_name s.nodes ++ ids) q.nodes ∙ sym (map-append node_name s.nodes t.nodes)));
  edges =
      edges-append p.statements q.statements
      ∙ (ap (λ (es : List (Id × Id)). es ++ edges_of q.statements) p.edges
      ∙ (ap (λ (es : List (Id × Id)). map edge_of s.cables ++ es) q.edges ∙ sym (map-append edge_of s.cables t.cables)));
}

pub nodes_where : (b : Bool) (nodes : List NodeNumber) (text : List ℕ) → AreLines (of_nodes nodes) text →
    AreLines (of_nodes (cond b nodes [])) (cond b text [])
nodes_where true nodes text h = h
nodes_where false nodes text h = no_lines

pub cables_where : (b : Bool) (cables : List Ends) (text : List ℕ) → AreLines (of_cables cables) text →
    AreLines (of_cables (cond b cables [])) (cond b text [])
cables_where true cables text h = h
cables_where false cables text h = no_lines
