use Rattle.std.proofs.Common.{◌≡◌, ◌<◌, subst, ap₂, length, Some}
use Rattle.pipe_model.specs.Language.Programs.{store_of}
use Rattle.pipe_frame.specs.Ties.{HallName}
use Rattle.pipe_frame.specs.TokenFields.{fields_of}
use Rattle.pipe_frame.specs.SeatedTokens.{IsSeated}
use Rattle.hall_table.specs.WorkerSeats.{name_of}
use Rattle.hall_calls.proofs.InstanceAccesses.{same_instance, replies_after, seated_after, trace_after}
use Rattle.hall_calls.proofs.instance.access_at.Goals as goal

pub access_of-requires : goal.access_of-requires
access_of-requires g c =
    let i = c.requires.idle in
    let name : name_of c.args.seat.now.table_id c.args.seat.now.me.0.it.constants ≡ name_of c.args.hall.now.table.shared.table_id
    (Some i.constants) = ap₂ name_of c.requires.own i.knows in
    record {
      out = (
        i.constants,
        subst (λ h. IsSeated h (fields_of c.args.token.now) (g.M.Stands.tie c.args.token.now.payload)) name c.requires.out,
        subst (λ (x : HallName). c.args.cell.0 < length (store_of x.tree).values) name c.requires.cell,
      );
    }

pub returns-in-Some-clause-out : goal.returns-in-Some-clause-out
returns-in-Some-clause-out g c =
    let n = name_of c.args.seat.now.table_id c.args.seat.now.me.0.it.constants in
    seated_after n (fields_of c.args.token.now) (fields_of c.access_of.new.token) (g.M.Stands.tie c.args.token.now.payload)
    (g.M.Stands.tie c.access_of.new.token.payload) c.access_of.result c.access_of.ensures.fields c.access_of.ensures.tie c.requires.out

pub returns-in-Some-clause-instance : goal.returns-in-Some-clause-instance
returns-in-Some-clause-instance g c =
    let n = name_of c.args.seat.now.table_id c.args.seat.now.me.0.it.constants in
    same_instance n (fields_of c.args.token.now) (fields_of c.access_of.new.token) (g.M.Stands.tie c.args.token.now.payload)
    (g.M.Stands.tie c.access_of.new.token.payload) c.access_of.result c.access_of.ensures.fields c.access_of.ensures.tie c.requires.out

pub returns-in-Some-clause-replies : goal.returns-in-Some-clause-replies
returns-in-Some-clause-replies g c = replies_after (g.M.Stands.tie c.args.token.now.payload)
    (g.M.Stands.tie c.access_of.new.token.payload) c.access_of.result c.access_of.ensures.tie

pub returns-in-Some-clause-trace : goal.returns-in-Some-clause-trace
returns-in-Some-clause-trace g c =
    let n = name_of c.args.seat.now.table_id c.args.seat.now.me.0.it.constants in
    trace_after n (fields_of c.args.token.now) (g.M.Stands.tie c.args.token.now.payload) (g.M.Stands.tie c.access_of.new.token.payload)
    c.args.cell.0 c.args.write c.args.trace.now c.access_of.new.trace c.access_of.result c.access_of.ensures.trace c.requires.trace
    c.access_of.ensures.tie c.requires.out

pub returns-in-None-clause-out : goal.returns-in-None-clause-out
returns-in-None-clause-out g c =
    let n = name_of c.args.seat.now.table_id c.args.seat.now.me.0.it.constants in
    seated_after n (fields_of c.args.token.now) (fields_of c.access_of.new.token) (g.M.Stands.tie c.args.token.now.payload)
    (g.M.Stands.tie c.access_of.new.token.payload) c.access_of.result c.access_of.ensures.fields c.access_of.ensures.tie c.requires.out

pub returns-in-None-clause-instance : goal.returns-in-None-clause-instance
returns-in-None-clause-instance g c =
    let n = name_of c.args.seat.now.table_id c.args.seat.now.me.0.it.constants in
    same_instance n (fields_of c.args.token.now) (fields_of c.access_of.new.token) (g.M.Stands.tie c.args.token.now.payload)
    (g.M.Stands.tie c.access_of.new.token.payload) c.access_of.result c.access_of.ensures.fields c.access_of.ensures.tie c.requires.out

pub returns-in-None-clause-replies : goal.returns-in-None-clause-replies
returns-in-None-clause-replies g c = replies_after (g.M.Stands.tie c.args.token.now.payload)
    (g.M.Stands.tie c.access_of.new.token.payload) c.access_of.result c.access_of.ensures.tie

pub returns-in-None-clause-trace : goal.returns-in-None-clause-trace
returns-in-None-clause-trace g c =
    let n = name_of c.args.seat.now.table_id c.args.seat.now.me.0.it.constants in
    trace_after n (fields_of c.args.token.now) (g.M.Stands.tie c.args.token.now.payload) (g.M.Stands.tie c.access_of.new.token.payload)
    c.args.cell.0 c.args.write c.args.trace.now c.access_of.new.trace c.access_of.result c.access_of.ensures.trace c.requires.trace
    c.access_of.ensures.tie c.requires.out

pub returns-in-Some-clause-access : goal.returns-in-Some-clause-access
returns-in-Some-clause-access g c =
    let e = c.in-Some.ensures.trace in
    c.reply_of.ensures.returns c.args.trace.now c.access_of.new.trace (c.in-Some.entry.ticket, e.1)
