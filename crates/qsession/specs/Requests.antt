-- What the structs that a call brings stand for.
use Rattle.std.specs.Prelude.{ℕ, Bool, true, false, ◌==◌, if◌then◌else◌, List, Option, Some, None, take}
use Rattle.qrules.specs.declared.kind.Kind.{Kind}
use Rattle.qrules.specs.declared.kind.Kind.TheVariants.{User, Group, Project}
use Rattle.qrules.specs.declared.limits.Limits.{Limits}
use Rattle.qplain.specs.declared.call.Call.{Call}
use Rattle.qplain.specs.declared.call.Call.TheVariants.{Chown}
use Rattle.qplain.specs.declared.line.Line.{Line}
use Rattle.qplain.specs.Caller.{Caller}
use Rattle.qsession.specs.declared.caller.Caller.{Caller as BroughtCaller}
use Rattle.qsession.specs.declared.caller.Context.{Context}
use Rattle.qsession.specs.declared.requests.NewLimits.{NewLimits}
use Rattle.qsession.specs.declared.requests.NewOwners.{NewOwners}

-- who makes the call: of the sixteen places for further groups the first few count
abbrev pub caller_in : BroughtCaller → Caller
caller_in c = record { uid = c.uid; gid = c.gid; more = take c.count c.groups }

-- the line of a call that a caller makes at a moment
abbrev pub line_by : BroughtCaller → ℕ → Call → Line
line_by c moment call = record { cred = caller_in c; moment = moment; call = call }

-- the line of a call in its context
abbrev pub line_in : Context → Call → Line
line_in context call = line_by context.caller.now context.moment call

-- an id, where one is named
abbrev pub named : Bool → ℕ → Option ℕ
named true id = Some id
named false id = None

-- whose record it is: 0 a user's, 1 a group's, 2 a project's
abbrev pub kind_in : ℕ → Kind
kind_in number = if number == 0 then User else if number == 1 then Group else Project

-- the limits
abbrev pub limits_in : NewLimits → Limits
limits_in l = record {
  block_soft = l.block_soft;
  block_hard = l.block_hard;
  inode_soft = l.inode_soft;
  inode_hard = l.inode_hard;
}

-- the call that gives an inode these owners
abbrev pub chown_by : List ℕ → NewOwners → Call
chown_by path o = Chown path (named o.has_uid o.uid) (named o.has_gid o.gid) (named o.has_project o.project)
