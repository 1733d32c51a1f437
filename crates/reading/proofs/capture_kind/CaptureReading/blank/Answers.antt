use Rattle.std.proofs.Common.{refl}
use Rattle.reading.proofs.Same.{same_capture}
use Rattle.reading.proofs.capture_kind.CaptureReading.blank.Goals as goal

pub returns : goal.returns
returns c = same_capture _ _ refl refl refl
