use Rattle.std.proofs.Common.{[], refl}
use Rattle.sky_xdr.specs.Encoding.{uint, uhyper}
use Rattle.sky_segment.specs.Objects.{object_header, object_bytes}
use Rattle.sky_segment.proofs.ObjectLaws.{empty_object, length-object_bytes}
use Rattle.sky_segment.proofs.laws.empty_objects.Goals as goal

pub returns-clause-is : goal.returns-clause-is
returns-clause-is c = empty_object

pub returns-clause-size : goal.returns-clause-size
returns-clause-size c = λ name. length-object_bytes name []

pub returns-clause-first : goal.returns-clause-first
unfolding object_bytes object_header uint uhyper
returns-clause-first c = refl
