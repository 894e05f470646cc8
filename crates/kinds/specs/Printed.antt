-- What numbers and refusals are in print.
use Rattle.std.specs.Prelude.{ℕ, ◌++◌, List, codes, decimal}
use Rattle.kinds.specs.declared.numbered.Variable.{Variable}
use Rattle.kinds.specs.declared.numbered.Name.{Name}
use Rattle.kinds.specs.declared.numbered.Node.{Node}
use Rattle.kinds.specs.declared.refusals.Refusal.{Refusal}
use Rattle.kinds.specs.Refusals.{refusal_number}

abbrev pub variable_text : Variable → List ℕ
variable_text x = codes "v" ++ decimal x.0

abbrev pub name_text : Name → List ℕ
name_text f = codes "n" ++ decimal f.0

abbrev pub node_text : Node → List ℕ
node_text n = codes "node " ++ decimal n.0

abbrev pub refusal_text : Refusal → List ℕ
refusal_text e = codes "refused with " ++ decimal (refusal_number e)
