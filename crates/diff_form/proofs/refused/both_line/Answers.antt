use Rattle.std.proofs.Common.{◌≡◌, ◌∙◌, List, [], ◌∷◌, ◌++◌, ap, append_assoc}
use Rattle.std.specs.Prelude.{codes, decimal}
use Rattle.json.specs.Token.{Token, begin_object, key, number}
use Rattle.json.specs.Json.{array, no_items, item, no_members, member}
use Rattle.json.specs.Print.{print}
use Rattle.json.specs.Tree.{json_tokens}
use Rattle.bus_json.specs.Bus.{with_schema}
use Rattle.diff_form.specs.Difference.{refused_item}
use Rattle.diff_form.proofs.refused.both_line.Goals as goal

-- an object with a list of two items, token by token
joined : (b k n kk ba ea eo : Token) (x y t1 t2 t3 t4 t5 t6 t7 : List Token) →
    t1 ≡ b ∷ k ∷ n ∷ [] → t2 ≡ t1 ++ kk ∷ [] → t3 ≡ t2 ++ ba ∷ [] → t4 ≡ t3 ++ x → t5 ≡ t4 ++ y →
    t6 ≡ t5 ++ ea ∷ [] → t7 ≡ t6 ++ eo ∷ [] →
    t7 ≡ b ∷ k ∷ n ∷ kk ∷ ((ba ∷ (x ++ (y ++ ea ∷ []))) ++ eo ∷ [])
joined b k n kk ba ea eo x y t1 t2 t3 t4 t5 t6 t7 e1 e2 e3 e4 e5 e6 e7 =
    simp (e7, e6, e5, e4, e3, e2, e1, append_assoc)

pub returns : goal.returns
returns c =
    let old = refused_item c.args.old_name.now c.args.old in
    let new = refused_item c.args.new_name.now c.args.new in
    let v = with_schema (member (codes "captures") (array (item old (item new no_items))) no_members) in
    let first : c.open_schema.new.self ≡ begin_object ∷ key (codes "schema") ∷ number (decimal 1) ∷ [] = simp (c.in_ok-open_schema.ensures, c.new-out.ensures) in
    let e : c.close_object.new.self ≡ json_tokens v = joined _ _ _ _ _ _ _ (json_tokens old) (json_tokens new) _ _ _ _ _ _ _ first c.in_ok-key.ensures c.in_ok-open_list.ensures c.in_ok-put_item.ensures c.in_ok-put_item-2.ensures c.in_ok-close_list.ensures c.in_ok-close_object.ensures in
    c.in_ok-line.ensures.line ∙ ap (λ (ts : List Token). print ts ++ 10 ∷ []) e
