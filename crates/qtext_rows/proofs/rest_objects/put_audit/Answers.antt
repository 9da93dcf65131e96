use Rattle.std.proofs.Common.{length}
use Rattle.std.specs.List.{flat_map}
use Rattle.qtext_rows.specs.Rest.{audit_start, difference_object}
use Rattle.qtext.proofs.Fronts.{refused_first}
use Rattle.qtext_rows.proofs.rest_objects.put_audit.Goals as goal

pub returns-in_err-put_audit_start : goal.returns-in_err-put_audit_start
returns-in_err-put_audit_start g c = refused_first _ _ _ (audit_start (length c.args.differences.now))
    (flat_map difference_object c.args.differences.now) c.from_residual.ensures.0 c.in_err-put_audit_start.ensures
