-- Worked examples, by computation.
use Rattle.std.proofs.Common.{refl}
use Rattle.std.specs.Fmt.{digits}
use Rattle.run_record.specs.LogExamples.{ClosedText, CountingText, OtherLines}

pub counting_text : CountingText
unfolding digits
counting_text = refl

pub closed_text : ClosedText
unfolding digits
closed_text = refl

pub other_lines : OtherLines
unfolding digits
other_lines = refl
