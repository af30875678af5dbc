-- What becomes of an envelope at a node, whose packet stands in a datagram, as a plain value.
use Rattle.route_state.specs.Way.{WayView, Own, Pass, Drop, Arrives, GoesOn, Ends}
use Rattle.route_state.specs.Way as plain
use Rattle.node_route.specs.declared.ways.Course.{Course}
use Rattle.node_route.specs.declared.ways.Course.TheVariants as course
use Rattle.node_route.specs.declared.ways.Way.{Way}
use Rattle.node_route.specs.declared.ways.Way.TheVariants as way

abbrev pub way_in : Way → WayView
way_in (way.Own inner) = Own (inner.now)
way_in (way.Pass to hops origin target inner) = Pass to (record { front = record { hops = hops; origin = origin; target = target }; inner = inner.now })
way_in way.Drop = Drop

abbrev pub course_in : Course → plain.Course
course_in course.Arrives = Arrives
course_in (course.GoesOn to front) = GoesOn to front
course_in course.Ends = Ends
