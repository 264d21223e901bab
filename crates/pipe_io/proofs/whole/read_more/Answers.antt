use Rattle.std.proofs.Common.{◌∙◌, arith}
use Rattle.pipe_io.proofs.PartReads.{ends_nowhere, ends_there, none_read, one_part_more, prefix_grows}
use Rattle.pipe_io.proofs.whole.read_more.Goals as goal

pub returns-in_ok-extend_from_slice-clause-grew : goal.returns-in_ok-extend_from_slice-clause-grew
returns-in_ok-extend_from_slice-clause-grew g c =
    one_part_more c.args.bytes.now.items c.read_part-read.new.part c.extend_from_slice.new.self.items c.in-Got.n
    c.in_ok-extend_from_slice.ensures.items c.in-Got.ensures.within

pub returns-in_ok-extend_from_slice-clause-prefix : goal.returns-in_ok-extend_from_slice-clause-prefix
returns-in_ok-extend_from_slice-clause-prefix g c = λ _.
    prefix_grows (g.F.Files.holds c.args.files.now) c.args.name.now c.args.bytes.now.items c.read_part-read.new.part
    c.extend_from_slice.new.self.items c.len.result c.in-Got.n (c.len.ensures ∙ c.args.bytes.now.ok.0) c.requires.prefix
    c.in-Got.ensures.known c.in_ok-extend_from_slice.ensures.items

pub returns-in_ok-extend_from_slice-clause-ends : goal.returns-in_ok-extend_from_slice-clause-ends
returns-in_ok-extend_from_slice-clause-ends g c =
    let here = c.len.ensures ∙ c.args.bytes.now.ok.0 in
    let items = c.in_ok-extend_from_slice.ensures.items in
    ends_there (g.F.Files.holds c.args.files.now) c.args.name.now c.args.bytes.now.items c.read_part-read.new.part
    c.extend_from_slice.new.self.items c.len.result c.in-Got.n here
    (one_part_more c.args.bytes.now.items c.read_part-read.new.part c.extend_from_slice.new.self.items c.in-Got.n items
    c.in-Got.ensures.within) c.in-Got.ensures.known
    (prefix_grows (g.F.Files.holds c.args.files.now) c.args.name.now c.args.bytes.now.items c.read_part-read.new.part
    c.extend_from_slice.new.self.items c.len.result c.in-Got.n here c.requires.prefix c.in-Got.ensures.known items)

pub returns-in_default : goal.returns-in_default
returns-in_default g c =
    let read = c.read_part-read in
    record {
      keeps = read.ensures.keeps;
      cause = read.ensures.cause;
      memory = tt;
      grew = omega (arith, none_read read.result c.in_default.not-Got);
      prefix = λ _. c.requires.prefix;
      ends = ends_nowhere (g.F.Files.holds c.args.files.now) c.args.name.now c.args.bytes.now.items read.new.part c.len.result read.result
          c.in_default.not-Got read.ensures.known;
    }
