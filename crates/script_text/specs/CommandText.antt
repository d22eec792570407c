-- What commands print.
use Rattle.std.specs.Prelude.{ℕ, ◌==◌, List, [], ◌++◌, codes, if◌then◌else◌}
use Rattle.topology_stack.specs.Hex.{hex}
use Rattle.resource_manager.specs.declared.access.Answer.{Answer}
use Rattle.resource_manager.specs.declared.access.Answer.TheVariants.{Replied, Done, Refused}
use Rattle.resource_manager.specs.declared.grant.GrantFault.TheVariants.{NoChannel, NoBandwidth, Changed}
use Rattle.script_text.specs.ReportText.{numbered}

-- `csr NAME rcode R value V`
abbrev pub csr_text : List ℕ → Answer → List ℕ
csr_text name (Replied reply) =
    codes "csr " ++ (name ++ (numbered (codes " rcode ") reply.rcode
    ++ (numbered (codes " value ") reply.value ++ codes "\n")))
csr_text name answer = []

-- ` changed OFFSET OLD`
unfoldable pub changed_words : ℕ → ℕ → List ℕ
changed_words offset old = codes " changed 0x" ++ (hex 3 offset ++ numbered (codes " ") old)

-- ` done`, ` no_channel`, ` no_bandwidth LEFT` or ` changed OFFSET OLD`
abbrev pub grant_words : Answer → List ℕ
grant_words Done = codes " done"
grant_words (Refused NoChannel) = codes " no_channel"
grant_words (Refused (NoBandwidth left)) = numbered (codes " no_bandwidth ") left
grant_words (Refused (Changed offset old)) = changed_words offset old
grant_words answer = []

-- `allocate NAME` or `release NAME` and these words
abbrev pub grant_text : List ℕ → List ℕ → Answer → List ℕ
grant_text word name answer = word ++ (name ++ (grant_words answer ++ codes "\n"))

-- ` won` where the lock found 0x3F, and else ` lost OLD`
abbrev pub bid_words : Answer → List ℕ
bid_words (Replied reply) =
    if reply.value == 0x3F then codes " won" else numbered (codes " lost ") reply.value
bid_words answer = []

-- `manager NAME` and these words
abbrev pub bid_text : List ℕ → Answer → List ℕ
bid_text name answer = codes "manager " ++ (name ++ (bid_words answer ++ codes "\n"))
