-- No mark is set, and a boot forgets all rivals.
use Rattle.std.proofs.Common.{◌∙◌, ap, false, length, refl, sym}
use Rattle.std.proofs.lemmas.List.{length-replicate}
use Rattle.tsp_base.specs.Words.{is_among}
use Rattle.tsp_resolve.{proofs.MarkedLemmas.marked_none, specs.Marked.marked}
use Rattle.tsp_resolve.proofs.resolve.Resolve.new.Goals as goal

pub returns-clause-stands : goal.returns-clause-stands
returns-clause-stands c x past e = record {
  many = ap length c.in_ok-marks.ensures ∙ length-replicate _ false ∙ ap length (sym e);
  rivals = λ p. ap (λ marks. is_among p (marked past.peers marks)) c.in_ok-marks.ensures ∙ ap (is_among p) (marked_none past.peers _);
  empty = λ other p. refl;
}
