-- How often each call is made in a run.
use Rattle.std.specs.Prelude.{ℕ, ◌/◌, min, max}
use Rattle.passify.specs.declared.calls.FormMeasures.{FormMeasures}
use Rattle.bench.specs.declared.timing.Call.{Call}
use Rattle.bench.specs.declared.timing.Call.TheVariants.{Check, Measure, Passify, FileInTable, FileInEvaluator}

-- what a call goes over: rows, passive rows or nodes
abbrev pub units : Call → ℕ → FormMeasures → ℕ
units Check rows form = rows
units Measure rows form = rows
units Passify rows form = form.rows
units FileInTable rows form = form.nodes
units FileInEvaluator rows form = form.nodes

-- about 65,536 units in a run
abbrev pub run_turns : ℕ → ℕ
run_turns u = max (65536 / max u 1) 1

-- a register has room for 64 filings
abbrev pub turns : Call → ℕ → ℕ
turns Check u = run_turns u
turns Measure u = run_turns u
turns Passify u = run_turns u
turns FileInTable u = min (run_turns u) 64
turns FileInEvaluator u = min (run_turns u) 64
