-- A node stored as plain numbers. No public contract cites this file.
use Rattle.std.specs.Prelude.{ℕ, Bool, List, refl}
use Rattle.std.specs.Coded.{Coded, code_by, coded_list, coded_ℕ, coded_bool, coded×}
use Rattle.self_id.specs.declared.node.Attrs.{Attrs}
use Rattle.self_id.specs.declared.node.PortStatus.{PortStatus}
use Rattle.self_id.specs.Node.{Node, status_bits, status_of, status_of-status_bits}

abbrev pub status_code : Coded PortStatus
status_code = code_by ℕ coded_ℕ status_bits status_of status_of-status_bits

abbrev pub attrs_code : Coded Attrs
attrs_code =
    code_by (Bool × (ℕ × (ℕ × (ℕ × (Bool × (ℕ × Bool))))))
    (coded× coded_bool (coded× coded_ℕ (coded× coded_ℕ (coded× coded_ℕ
    (coded× coded_bool (coded× coded_ℕ coded_bool))))))
    (λ a. (a.link, (a.gap, (a.speed, (a.delay, (a.contender, (a.power, a.initiated)))))))
    (λ p. record {
      link = p.0;
      gap = p.1.0;
      speed = p.1.1.0;
      delay = p.1.1.1.0;
      contender = p.1.1.1.1.0;
      power = p.1.1.1.1.1.0;
      initiated = p.1.1.1.1.1.1;
    })
    (λ _. refl)

abbrev pub node_code : Coded Node
node_code =
    code_by (Attrs × (List PortStatus × (ℕ × ℕ)))
    (coded× attrs_code (coded× (coded_list status_code) (coded× coded_ℕ coded_ℕ)))
    (λ n. (n.attrs, (n.ports, (n.kept_a, n.kept_b))))
    (λ p. record { attrs = p.0; ports = p.1.0; kept_a = p.1.1.0; kept_b = p.1.1.1 })
    (λ _. refl)
