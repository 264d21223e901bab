use Rattle.std.proofs.Common.{◌∙◌, arith, drop, length-append, length-drop, refl, subst, sym}
use Rattle.std.proofs.lemmas.List.{length-take-le}
use Rattle.std.specs.Prelude.{IfSome}
use Rattle.pipe_io.specs.declared.whole.Whole.TheVariants.{Bytes, Missing, TooLong}
use Rattle.pipe_io.specs.WholeFiles.{IsPrefixOf, IsWholeOf}
use Rattle.pipe_io.proofs.PartReads.{is_missing, too_long, whole_read}
use Rattle.pipe_io.proofs.whole.read_whole.Goals as goal

pub loop-part-preserved : goal.loop-part-preserved
loop-part-preserved g c =
    let h = c.loop-part.invariant in
    let read = c.in_ok-read_more.ensures in
    let room = c.next_room-room in
    record {
      holds = read.keeps ∙ h.holds;
      count = (rw c.in-Got.is at read.cause) ∙ h.count;
      room = omega (
        arith,
        c.read_more.auto.part,
        length-append c.read_more.new.part (drop room.result c.loop-part.part),
        length-take-le room.result c.loop-part.part (omega (arith, room.ensures.fits, h.room)),
        length-drop room.result c.loop-part.part,
        h.room,
        room.ensures.fits,
      );
      prefix = subst (λ known. IfSome known (λ content. IsPrefixOf (content c.args.name.now) c.read_more.new.bytes.items)) (sym read.keeps)
          (read.prefix refl);
    }

pub returns-in-Got-eq0-clause-known : goal.returns-in-Got-eq0-clause-known
returns-in-Got-eq0-clause-known g c =
    let grew = rw c.in-Got-eq0.is at c.in_ok-read_more.ensures.grew in
    let name = c.args.name.now in
    subst (λ known. IfSome known (λ content. IsWholeOf (content name) c.args.limit (Bytes c.from_vec.result)))
    c.loop-part.invariant.holds
    (whole_read (g.F.Files.holds c.loop-part.files) name c.read_more.new.bytes.items c.from_vec.result c.args.limit c.in-Got-eq0.field-0
    c.in_ok-read_more.field-0 c.in-Got-eq0.is c.in-Got-eq0.field-0-test c.in_ok-read_more.ensures.ends c.from_vec.ensures
    (omega (arith, grew, c.in-Got-eq0.field-0-test, c.loop-part-test.true, c.len.ensures, c.loop-part.bytes.ok.0)))

pub returns-clause-known : goal.returns-clause-known
returns-clause-known g c =
    let name = c.args.name.now in
    subst (λ known. IfSome known (λ content. IsWholeOf (content name) c.args.limit (TooLong c.from_vec-2.result)))
    c.loop-part.invariant.holds
    (too_long (g.F.Files.holds c.loop-part.files) name c.loop-part.bytes.items c.from_vec-2.result c.args.limit c.loop-part.invariant.prefix
    c.from_vec-2.ensures (omega (arith, c.loop-part-test.false, c.len.ensures, c.loop-part.bytes.ok.0)))

pub returns-in-Missing-clause-known : goal.returns-in-Missing-clause-known
returns-in-Missing-clause-known g c =
    let name = c.args.name.now in
    subst (λ known. IfSome known (λ content. IsWholeOf (content name) c.args.limit Missing)) c.loop-part.invariant.holds
    (is_missing (g.F.Files.holds c.loop-part.files) name c.read_more.new.bytes.items c.args.limit c.in_ok-read_more.field-0 c.in-Missing.is
    c.in_ok-read_more.ensures.ends)

pub read_more-requires-clause-prefix : goal.read_more-requires-clause-prefix
read_more-requires-clause-prefix g c = c.loop-part.invariant.prefix
