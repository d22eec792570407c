-- What crates above use of the proofs of this one, by what it is about.

-- Each tree has a drawing, and one.
pub use Rattle.view_text.proofs.Some.{some-drawing, same_drawing}
-- Each quadlet shows a packet.
pub use Rattle.view_text.proofs.SomePacket.{some-packet}
-- What can stand in a label, and that a node's name is a word.
pub use Rattle.view_text.proofs.Digits.{quotable_more, node_word}
-- Statements of DOT, one after the other.
pub use Rattle.view_text.proofs.DotParts.{lines-append, statements-append, nodes-append, edges-append}
-- The statements of a graph's head, of a node with a label and of a cable.
pub use Rattle.view_text.proofs.GraphDot.{head_statements, head_text, head_are, set, labelled, labelled_line, labelled_is, label_quotable, root_attributes, irm_attributes, box_attributes, box_text, port_attributes, ports_given, edge_statement, edge_text, edge_is}
-- The names of a script's nodes can stand in a label.
pub use Rattle.view_text.proofs.NamedDot.{name_quotable, named_front_line}
