-- What requests and answers are in print.
use Rattle.std.specs.Prelude.{ℕ, ◌++◌, List, length, codes, decimal}
use Rattle.kinds.specs.Printed.{node_text}
use Rattle.register.specs.declared.entries.Filing.{Filing}
use Rattle.register.specs.declared.entries.Joining.{Joining}
use Rattle.register.specs.declared.entries.Reading.{Reading}
use Rattle.register.specs.declared.entries.Answer.{Answer}
use Rattle.register.specs.declared.entries.Answer.TheVariants.{Filed, Joined, Marked, Shown}
use Rattle.register.specs.declared.entries.Request.{Request}
use Rattle.register.specs.declared.entries.Request.TheVariants.{File, Join, Strike, Read}

abbrev pub request_text : Request → List ℕ
request_text (File cs ts) = codes "file the routine of " ++ decimal (length cs.now) ++ codes " rows"
request_text (Join j k) = codes "join " ++ decimal j ++ codes " and " ++ decimal k
request_text (Strike j) = codes "strike " ++ decimal j
request_text (Read j) = codes "read " ++ decimal j

-- the entry and what its condition takes, in two halves
abbrev pub filing_front : Filing → List ℕ
filing_front f = codes "entry " ++ decimal f.entry ++ codes ", " ++ node_text f.node ++ codes ", " ++ decimal f.names ++ codes " names, "

abbrev pub filing_rest : Filing → List ℕ
filing_rest f = decimal f.rows ++ codes " rows, " ++ decimal f.terms ++ codes " term rows, nodes made: " ++ decimal f.rise

abbrev pub filing_text : Filing → List ℕ
filing_text f = filing_front f ++ filing_rest f

abbrev pub joining_text : Joining → List ℕ
joining_text j = codes "entry " ++ decimal j.entry ++ codes ", " ++ node_text j.node

abbrev pub reading_text : Reading → List ℕ
reading_text r = node_text r.node ++ codes ", " ++ decimal r.names ++ codes " names, nodes made: " ++ decimal r.rise

abbrev pub answer_text : Answer → List ℕ
answer_text (Filed f) = filing_text f
answer_text (Joined j) = joining_text j
answer_text Marked = codes "struck"
answer_text (Shown r) = reading_text r
