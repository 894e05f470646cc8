use Rattle.std.proofs.Common.{[], ◌∷◌, refl, ap, ◌∙◌, arith}
use Rattle.passive.specs.Layout.{put}
use Rattle.passify.proofs.Putting.{set_put}
use Rattle.passify.proofs.writing.write_let.Goals as goal

pub returns : goal.returns
returns c = record {
  rows_in =
      set_put c.args.rows.now c.args.at.row c.with_term.result (omega arith)
      ∙ ap (λ r. put c.args.rows.now c.args.at.row (r ∷ [])) c.with_term.ensures;
  terms_in =
      set_put c.args.terms.now c.args.at.term _ (omega arith)
      ∙ ap (λ r. put c.args.terms.now c.args.at.term (r ∷ [])) c.into.ensures;
  row_end = refl;
  term_end = refl;
}
