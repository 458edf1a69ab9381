use borrow.Author.Rules.{rules}
use Rattle.cutting.specs.parameter.Eighths.{parameter_of}
use Rattle.cutting.proofs.Within.{parameter_accepted}
use Rattle.cutting.proofs.parameter.parameter.Goals as goal

pub returns : goal.returns
unfolding parameter_of
returns c =
    let r = c.range-t0.ensures in
    let m = c.cut_parameter.ensures in
    record {
      exact = rw (r.0, r.1) at m.exact;
      accepted = rw (r.0, r.1) at (parameter_accepted c.args.k _ _ c.cut_parameter.result (search rules) (search rules) m (search rules));
      between = rw (r.0, r.1) at m.between;
    }
